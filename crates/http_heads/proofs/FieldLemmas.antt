-- Fields that are read from their spans, and digits.
use Rattle.std.proofs.Common.{◌≡◌, ℕ, suc, Bool, true, false, List, [], ◌∷◌, map, Some, find, option_map, All, refl, arith, cond}
use Rattle.std.proofs.lemmas.Grind.{common_steps}
use Rattle.std.specs.List.{list_all}
use Rattle.std.specs.Char.{IsAsciiDigit, is_ascii_digit}
use Rattle.std.proofs.lemmas.Bool.Decides.{nat_tests}

-- the first of the mapped elements is the first of the elements, mapped
pub find_of_mapped : {X Y : Type 0} (p : Y → Bool) (g : X → Y) (xs : List X) → find p (map g xs) ≡ option_map g (find (λ x. p (g x)) xs)
find_of_mapped p g [] = refl
find_of_mapped p g (x ∷ xs) = by (p (g x)) (find_of_mapped p g xs)
  where
    by : (v : Bool) → find p (map g xs) ≡ option_map g (find (λ y. p (g y)) xs)
        → cond v (Some (g x)) (find p (map g xs)) ≡ option_map g (cond v (Some x) (find (λ y. p (g y)) xs))
    by true h = refl
    by false h = h

-- digits by index are digits by the test
pub digits_pass : (bytes : List ℕ) → All IsAsciiDigit bytes → list_all is_ascii_digit bytes ≡ true
digits_pass [] h = refl
digits_pass (b ∷ bytes) h =
    let first : IsAsciiDigit b = h 0 0 (omega arith) in
    let test : is_ascii_digit b ≡ true = grind (arith, nat_tests) in
    rw test (digits_pass bytes (λ i d l. h (suc i) d (omega arith)))

-- bytes that pass the test are digits by index
pass_digits : (bytes : List ℕ) → list_all is_ascii_digit bytes ≡ true → All IsAsciiDigit bytes
pass_digits bytes h i d l = grind (arith, common_steps, nat_tests, h)

-- bytes that are no digits by index don't pass the test
pub no_pass : (bytes : List ℕ) → ¬ (All IsAsciiDigit bytes) → list_all is_ascii_digit bytes ≡ false
no_pass bytes not = by (list_all is_ascii_digit bytes) refl
  where
    by : (v : Bool) → list_all is_ascii_digit bytes ≡ v → v ≡ false
    by true is = absurd (not (pass_digits bytes is))
    by false is = refl
