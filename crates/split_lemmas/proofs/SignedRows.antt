-- Natural numbers that are given a sign, as certificates print them: they lose it again, and are 0 or more.
use Rattle.std.proofs.Common.{◌≡◌, ℕ, ℤ, pos, ◌≤ℤ◌, List, [], ◌∷◌, map, All, get_or, unsigned_abs, arith, refl, sym, ap, ◌∙◌, subst}
use Rattle.std.proofs.lemmas.Int.{ints}
use Rattle.std.proofs.lemmas.List.{get_or-map, length-map}
use Rattle.arrayvec.specs.declared.array_vec.ArrayVec.{ArrayVec}

-- a row with room for n numbers, with signs
abbrev pub signed_row : (n : ℕ) → ArrayVec ℕ n (Unit {0}) → List ℤ
signed_row n row = map pos row.items

-- a row of numbers without their signs
abbrev pub unsigned_row : (n : ℕ) → List ℤ → ArrayVec ℕ n (Unit {0})
unsigned_row n row = record { items = map unsigned_abs row }

-- numbers that were given a sign lose it again
pub signed_again : (xs : List ℕ) → map unsigned_abs (map pos xs) ≡ xs
signed_again [] = refl
signed_again (x ∷ xs) = ap (λ ys. x ∷ ys) (signed_again xs)

-- and so do rows of them
pub rows_again : (n : ℕ) (rows : List (ArrayVec ℕ n (Unit {0}))) → map (unsigned_row n) (map (signed_row n) rows) ≡ rows
rows_again n [] = refl
rows_again n (row ∷ rows) =
    ap (λ (xs : List ℕ). let r : ArrayVec ℕ n (Unit {0}) = record { items = xs } in r ∷ map (unsigned_row n) (map (signed_row n) rows)) (signed_again row.items)
    ∙ ap (λ rs. row ∷ rs) (rows_again n rows)

-- natural numbers with a sign are 0 or more
pub signed_low : (xs : List ℕ) → All (λ x. pos 0 ≤ℤ x) (map pos xs)
signed_low xs k d l =
    let count = length-map xs pos in
    let at : get_or (map pos xs) k d ≡ pos (get_or xs k 0) = get_or-map pos xs k 0 d (omega (arith, count)) in
    omega (arith, ints, at)

-- and so are rows of them
pub rows_low : (n : ℕ) (rows : List (ArrayVec ℕ n (Unit {0}))) → All (λ row. All (λ x. pos 0 ≤ℤ x) row) (map (signed_row n) rows)
rows_low n rows k d l =
    let count = length-map rows (signed_row n) in
    let none : ArrayVec ℕ n (Unit {0}) = record { items = [] } in
    let at : get_or (map (signed_row n) rows) k d ≡ signed_row n (get_or rows k none) = get_or-map (signed_row n) rows k none d (omega (arith, count)) in
    subst (λ (row : List ℤ). All (λ x. pos 0 ≤ℤ x) row) (sym at) (signed_low (get_or rows k none).items)
