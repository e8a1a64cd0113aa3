-- Numbers that each follow a space are one text, however they are given.
use Rattle.std.proofs.Common.{◌≡◌, ℕ, ℤ, pos, List, [], ◌∷◌, ◌++◌, map, refl, sym, ap, ◌∙◌}
use Rattle.std.specs.Fmt.{decimal, signed_decimal}
use Rattle.split_frac.specs.Frac.{pair_text}
use Rattle.split_frac.specs.Texts.{numbers_text, with_spaces}

-- a natural number is written as the number over 1
pub natural_text : (number : ℕ) → pair_text (pos number, 1) ≡ decimal number
unfolding pair_text
natural_text number = refl

-- so is a whole number
pub whole_text : (number : ℤ) → pair_text (number, 1) ≡ signed_decimal number
unfolding pair_text
whole_text number = refl

-- numbers whose texts are those of pairs
pub texts_of_pairs : {X : Type 0} (text : X → List ℕ) (pair : X → ℤ × ℕ) → ((x : X) → pair_text (pair x) ≡ text x) → (xs : List X) → with_spaces (map text xs) ≡ numbers_text (map pair xs)
texts_of_pairs text pair same [] = refl
texts_of_pairs text pair same (x ∷ xs) =
    ap (λ t. (32 ∷ t) ++ with_spaces (map text xs)) (sym (same x)) ∙ ap (λ t. (32 ∷ pair_text (pair x)) ++ t) (texts_of_pairs text pair same xs)
