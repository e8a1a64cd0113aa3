-- Permutations of the numbers below n, by places.
use Rattle.std.proofs.Common.{◌≡◌, ℕ, ◌<◌, List, length, All, get_or, false, eqb, arith, sym, ◌∙◌, ◌⊎◌, ⊎_elim}
use Rattle.std.specs.List.{range_with_len}
use Rattle.std.specs.List.Sorted.{IsPermutation}
use Rattle.std.proofs.lemmas.Bool.{cases_eq, cases_order, ne_eqb, eq-eqb, eqb-false}
use Rattle.std.proofs.lemmas.List.{get_or_default}
use Rattle.std.proofs.lemmas.List.Elements.{All-from_get_or}
use Rattle.std.proofs.lemmas.List.FromFn.{length-range_with_len, get_or-range_with_len}
use Rattle.std.proofs.lemmas.List.Sorted.{length_permutation, All-permutation, Contains-permutation}
use Rattle.std.proofs.lemmas.Map.Keys.{IsDistinct-from_apart, IsDistinct-IsPermutation, apart_from_distinct}

-- equality of numbers in either order
flips : (x y : ℕ) → eqb x y ≡ eqb y x
flips x y = ⊎_elim
    (λ e. eq-eqb x y e ∙ sym (eq-eqb y x (sym e)))
    (λ (d : x ≡ y → ⊥). ne_eqb x y d ∙ sym (ne_eqb y x (λ e. d (sym e))))
    (cases_eq x y)

-- the numbers of a range differ
range_apart : (a n i j d : ℕ) → i < j → j < length (range_with_len a n) → eqb (get_or (range_with_len a n) i d) (get_or (range_with_len a n) j d) ≡ false
range_apart a n i j d l m =
    let count = length-range_with_len a n in
    let first = get_or-range_with_len a n i d (omega arith) in
    let second = get_or-range_with_len a n j d (omega arith) in
    ne_eqb _ _ (λ (e : get_or (range_with_len a n) i d ≡ get_or (range_with_len a n) j d). omega arith)

-- a permutation of n numbers has n places
pub permutation_length : (a n : ℕ) (xs : List ℕ) → IsPermutation (range_with_len a n) xs → length xs ≡ n
permutation_length a n xs h = length_permutation (range_with_len a n) xs h ∙ length-range_with_len a n

-- each number of a permutation of the first n is below n
pub permutation_below : (n : ℕ) (xs : List ℕ) (i : ℕ) → IsPermutation (range_with_len 0 n) xs → i < n → get_or xs i 0 < n
permutation_below n xs i h l =
    let count = permutation_length 0 n xs h in
    let all : All (λ x. x < n) (range_with_len 0 n) = All-from_get_or (λ x. x < n) (range_with_len 0 n) 0 (λ k m. let r = length-range_with_len 0 n in let e = get_or-range_with_len 0 n k 0 (omega arith) in omega arith) in
    All-permutation (λ x. x < n) (range_with_len 0 n) xs h all i 0 (omega arith)

-- the numbers at an earlier and a later place differ
order_apart : (a n : ℕ) (xs : List ℕ) (i j : ℕ) → IsPermutation (range_with_len a n) xs → i < j → j < n → get_or xs i 0 ≡ get_or xs j 0 → ⊥
order_apart a n xs i j h l m =
    let count = permutation_length a n xs h in
    let distinct = IsDistinct-IsPermutation eqb flips (range_with_len a n) xs h (IsDistinct-from_apart eqb (range_with_len a n) (range_apart a n)) in
    eqb-false (get_or xs i 0) (get_or xs j 0) (apart_from_distinct eqb xs i j 0 distinct l (omega arith))

-- no number is at two places
pub permutation_apart : (a n : ℕ) (xs : List ℕ) (i j : ℕ) → IsPermutation (range_with_len a n) xs → i < n → j < n → get_or xs i 0 ≡ get_or xs j 0 → i ≡ j
permutation_apart a n xs i j h l m e = ⊎_elim
    (λ same. same)
    (λ (other : (i < j) ⊎ (j < i)). ⊎_elim
    (λ (before : i < j). absurd (order_apart a n xs i j h before m e))
    (λ (after : j < i). absurd (order_apart a n xs j i h after l (sym e)))
    other)
    (cases_order i j)

-- each number is somewhere
pub permutation_place : (n : ℕ) (xs : List ℕ) (r : ℕ) → IsPermutation (range_with_len 0 n) xs → r < n → (i : ℕ) × (i < n) × (get_or xs i 0 ≡ r)
permutation_place n xs r h l =
    let count = permutation_length 0 n xs h in
    let e : get_or (range_with_len 0 n) r r ≡ r = let h = get_or-range_with_len 0 n r r l in omega arith in
    let all = length-range_with_len 0 n in
    let there = Contains-permutation (range_with_len 0 n) xs r h (r, omega arith, e) in
    (there.0, omega (arith, there.1), get_or_default xs there.0 0 r there.1 ∙ there.2)
