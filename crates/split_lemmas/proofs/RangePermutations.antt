-- Permutations of the numbers from 1 to n: the lists of n numbers that have each of them.
use Rattle.std.proofs.Common.{◌≡◌, ◌≢◌, ℕ, ◌-◌, ◌≤◌, List, length, get_or, AllPairs, Contains, arith, sym, ◌∙◌}
use Rattle.std.specs.List.{range_with_len}
use Rattle.std.specs.List.Sorted.{IsPermutation}
use Rattle.std.proofs.lemmas.List.FromFn.{length-range_with_len, get_or-range_with_len}
use Rattle.std.proofs.lemmas.List.Sorted.{Contains-permutation}
use Rattle.split_lemmas.proofs.RenamedOrders.{permutation_from_within}

-- the numbers of a range differ
range_differs : (a n : ℕ) → AllPairs ◌≢◌ (range_with_len a n)
range_differs a n i j d l m = λ (e : get_or (range_with_len a n) i d ≡ get_or (range_with_len a n) j d).
    let count = length-range_with_len a n in
    let first = get_or-range_with_len a n i d (omega (arith, count, l, m)) in
    let second = get_or-range_with_len a n j d (omega (arith, count, m)) in
    omega (arith, e, first, second, l)

-- a list of n numbers that has each of 1 to n is a permutation of them
pub permutation_from_each : (n : ℕ) (xs : List ℕ) → length xs ≡ n → ((number : ℕ) → 1 ≤ number → number ≤ n → Contains xs number) → IsPermutation (range_with_len 1 n) xs
permutation_from_each n xs count each = permutation_from_within (range_with_len 1 n) xs (range_differs 1 n)
    (λ k d l.
    let within = length-range_with_len 1 n in
    let e = get_or-range_with_len 1 n k d (omega (arith, l, within)) in
    each (get_or (range_with_len 1 n) k d) (omega (arith, e)) (omega (arith, e, l, within)))
    (length-range_with_len 1 n ∙ sym count)

-- and a permutation of them has each
pub permutation_to_each : (n : ℕ) (xs : List ℕ) → IsPermutation (range_with_len 1 n) xs → (number : ℕ) → 1 ≤ number → number ≤ n → Contains xs number
permutation_to_each n xs h number low high =
    let within = length-range_with_len 1 n in
    let e : get_or (range_with_len 1 n) (number - 1) number ≡ number = let g = get_or-range_with_len 1 n (number - 1) number (omega (arith, low, high)) in omega (arith, g, low) in
    Contains-permutation (range_with_len 1 n) xs number h (number - 1, omega (arith, within, low, high), e)
