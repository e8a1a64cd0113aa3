-- Lists of texts are compared through their views.
use Rattle.std.proofs.Common.{◌≡◌, List, [], ◌∷◌, map, nat_eq, refl, ◌&&◌}
use Rattle.std.specs.Cmp.Lexicographic.{pointwise}
use Rattle.arrayvec.specs.ArrayString.{ArrayString}
use Rattle.sealed_core.specs.Host.{text}
use Rattle.sealed_core.specs.Sameness.{same_texts}

-- texts are compared as their bytes
pub texts_equal : (a b : List ArrayString) → pointwise (λ s t. pointwise nat_eq s.bytes t.bytes) a b ≡ same_texts (map text a) (map text b)
texts_equal [] [] = refl
texts_equal [] (t ∷ b) = refl
texts_equal (s ∷ a) [] = refl
texts_equal (s ∷ a) (t ∷ b) = λ i. pointwise nat_eq s.bytes t.bytes && texts_equal a b i
