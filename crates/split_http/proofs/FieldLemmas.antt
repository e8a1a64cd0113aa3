-- Fields that are read from their spans.
use Rattle.std.proofs.Common.{◌≡◌, Bool, ◌||◌, List, [], ◌∷◌, map, refl, ap}
use Rattle.std.specs.List.{list_any}

-- a test of the mapped elements is a test of the elements
pub any_of_mapped : {X Y : Type 0} (p : Y → Bool) (g : X → Y) (xs : List X) → list_any p (map g xs) ≡ list_any (λ x. p (g x)) xs
any_of_mapped p g [] = refl
any_of_mapped p g (x ∷ xs) = ap (λ v. p (g x) || v) (any_of_mapped p g xs)
