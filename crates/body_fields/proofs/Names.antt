-- Names through their views.
use Rattle.std.proofs.Common.{◌↔◌, zero, suc, List, [], ◌∷◌, map, All, arith}
use Rattle.arrayvec.specs.ArrayString.{ArrayString}
use Rattle.body_fields.specs.Creations.{text}
use Rattle.body_fields.specs.Rules.{IsName}

-- what holds of the images of all holds of all of the mapped list
into_map : {A B : Type 0} (f : A → B) (P : B → Type 0) (xs : List A) → All (λ x. P (f x)) xs → All P (map f xs)
into_map f P [] each k d there = absurd (omega arith)
into_map f P (x ∷ xs) each zero d there = each zero x (omega arith)
into_map f P (x ∷ xs) each (suc k) d there = into_map f P xs (λ j e below. each (suc j) e (omega (arith, below))) k d (omega (arith, there))

-- and back
from_map : {A B : Type 0} (f : A → B) (P : B → Type 0) (xs : List A) → All P (map f xs) → All (λ x. P (f x)) xs
from_map f P [] each k d there = absurd (omega arith)
from_map f P (x ∷ xs) each zero d there = each zero (f x) (omega arith)
from_map f P (x ∷ xs) each (suc k) d there = from_map f P xs (λ j e below. each (suc j) e (omega (arith, below))) k d (omega (arith, there))

-- exactly so
all_mapped : {A B : Type 0} (f : A → B) (P : B → Type 0) (xs : List A) → All (λ x. P (f x)) xs ↔ All P (map f xs)
all_mapped f P xs = (into_map f P xs, from_map f P xs)

-- names are names through their views
pub names_mapped : (names : List ArrayString) → All (λ name. IsName (text name)) names ↔ All IsName (map text names)
names_mapped names = all_mapped text IsName names
