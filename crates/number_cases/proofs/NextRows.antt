-- What comes next in a row of numbers.
use Rattle.std.proofs.Common.{◌≡◌, ℕ, suc, zero, [], ◌∷◌, ◌++◌, ◌+◌, map, ap, ◌∙◌, arith}
use Rattle.std.specs.List.{range_with_len}

next_from : {X : Type 0} (f : ℕ → X) (a k : ℕ) → map f (range_with_len a (suc k)) ≡ map f (range_with_len a k) ++ f (a + k) ∷ []
next_from f a zero = let e : a ≡ a + zero = omega arith in ap (λ (x : ℕ). f x ∷ []) e
next_from f a (suc k) =
    let e : (a + 1) + k ≡ a + suc k = omega arith in
    ap (λ xs. f a ∷ xs) (next_from f (a + 1) k ∙ ap (λ (x : ℕ). map f (range_with_len (a + 1) k) ++ f x ∷ []) e)

pub rows_next : {X : Type 0} (f : ℕ → X) (k : ℕ) → map f (range_with_len 0 (k + 1)) ≡ map f (range_with_len 0 k) ++ f k ∷ []
rows_next f k =
    let more : k + 1 ≡ suc k = omega arith in
    let none : 0 + k ≡ k = omega arith in
    ap (λ (n : ℕ). map f (range_with_len 0 n)) more ∙ next_from f 0 k ∙ ap (λ (x : ℕ). map f (range_with_len 0 k) ++ f x ∷ []) none
