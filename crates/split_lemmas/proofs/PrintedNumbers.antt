-- Printed whole numbers without their signs, as the numbers of a case, and their ranges.
use Rattle.std.proofs.Common.{◌≡◌, ℕ, zero, suc, ℤ, pos, ◌<◌, ◌≤◌, List, [], ◌∷◌, length, map, get_or, sum, All, arith, refl, ap, unsigned_abs, ◌≤ℤ◌}
use Rattle.std.proofs.lemmas.Int.{ints}
use Rattle.std.proofs.lemmas.List.{length-map, get_or-map}
use Rattle.std.proofs.lemmas.List.FromFn.{get_or-range_with_len, length-range_with_len}
use Rattle.std.proofs.lemmas.List.Sorted.{All-permutation}
use Rattle.std.proofs.lemmas.List.Sums.{get_or-le-sum_by}
use Rattle.std.specs.List.{range_with_len}
use Rattle.std.specs.List.Sorted.{IsPermutation}
use Rattle.arrayvec.specs.declared.array_vec.ArrayVec.{ArrayVec}

-- each of the numbers is from least to most
abbrev pub AreWithin : ℕ → ℕ → List ℤ → Type 0
AreWithin least most numbers = All (λ number. (pos least ≤ℤ number) × (number ≤ℤ pos most)) numbers

-- a row without signs
abbrev pub unsigned_row : (room : ℕ) → List ℤ → ArrayVec ℕ room (Unit {0})
unsigned_row room row = record { items = map unsigned_abs row }

-- the number at a place of a list without signs
pub unsigned_at : (xs : List ℤ) (i : ℕ) → get_or (map unsigned_abs xs) i 0 ≡ unsigned_abs (get_or xs i (pos 0))
unsigned_at [] i = refl
unsigned_at (x ∷ xs) zero = refl
unsigned_at (x ∷ xs) (suc i) = unsigned_at xs i

-- numbers from the least on, and at most a limit without their signs, are from the least to the limit
pub bounded_from : (least most : ℕ) (xs : List ℤ) → All (λ x. pos least ≤ℤ x) xs → ((i : ℕ) → i < length xs → get_or (map unsigned_abs xs) i 0 ≤ most) → AreWithin least most xs
bounded_from least most xs low high k d l =
    let at : get_or (map unsigned_abs xs) k 0 ≡ unsigned_abs (get_or xs k d) = get_or-map unsigned_abs xs k d 0 l in
    let here = low k d l in
    (here, omega (arith, ints, high k l, at, here))

-- the same where they are from 1 to a number within the limit without their signs
pub bounded : (high most : ℕ) (xs : List ℤ) → high ≤ most → All (λ x. pos 0 ≤ℤ x) xs → All (λ x. (1 ≤ x) × (x ≤ high)) (map unsigned_abs xs) → AreWithin 0 most xs
bounded high most xs few low h = bounded_from 0 most xs low (λ i l. let within = (h i 0 (omega (arith, l, length-map xs unsigned_abs))).1 in omega (arith, within, few))

-- the numbers of a row are at most what they sum to
pub row_bounded : (most : ℕ) (row : List ℤ) → All (λ x. pos 0 ≤ℤ x) row → sum (map unsigned_abs row) ≤ most → AreWithin 0 most row
row_bounded most row low few = bounded_from 0 most row low (λ i l.
    let one = get_or-le-sum_by (λ (x : ℕ). x) (map unsigned_abs row) i 0 (omega (arith, l, length-map row unsigned_abs)) in
    omega (arith, few, one))

-- the same of rows, each with a sum
pub rows_bounded : (room most : ℕ) (rows : List (List ℤ)) → All (λ row. All (λ x. pos 0 ≤ℤ x) row) rows
    → ((k : ℕ) (other : ArrayVec ℕ room (Unit {0})) → k < length (map (unsigned_row room) rows) → sum (get_or (map (unsigned_row room) rows) k other).items ≤ most)
    → All (AreWithin 0 most) rows
rows_bounded room most rows low sums k d l =
    let row : List ℤ = get_or rows k d in
    let at : get_or (map (unsigned_row room) rows) k (unsigned_row room d) ≡ unsigned_row room row = get_or-map (unsigned_row room) rows k d (unsigned_row room d) l in
    let few = sums k (unsigned_row room d) (omega (arith, l, length-map rows (unsigned_row room))) in
    let same : sum (get_or (map (unsigned_row room) rows) k (unsigned_row room d)).items ≡ sum (map unsigned_abs row) = ap (λ (r : ArrayVec ℕ room (Unit {0})). sum r.items) at in
    row_bounded most row (low k d l) (omega (arith, few, same))

-- numbers that are 1 to n in some order without their signs
pub order_bounded : (n : ℕ) (xs : List ℤ) → All (λ x. pos 1 ≤ℤ x) xs → IsPermutation (range_with_len 1 n) (map unsigned_abs xs) → AreWithin 1 n xs
order_bounded n xs low is = bounded_from 1 n xs low (λ k l. few k 0 (omega (arith, l, length-map xs unsigned_abs)))
  where
    few : All (λ x. x ≤ n) (map unsigned_abs xs)
    few = All-permutation (λ x. x ≤ n) (range_with_len 1 n) (map unsigned_abs xs) is
        (λ i e m. let count = length-range_with_len 1 n in let g = get_or-range_with_len 1 n i e (omega (arith, m, count)) in omega (arith, g, m, count))
