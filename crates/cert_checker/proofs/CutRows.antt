-- The table of a certificate, cut into the lines of the sets.
use Rattle.std.proofs.Common.{◌≡◌, ℕ, ℤ, zero, suc, ◌+◌, ◌-◌, ◌^◌, ◌<◌, ◌≤◌, List, [], ◌∷◌, ◌++◌, length, get_or, take, drop, sum, arith, refl, sym, ap, ◌∙◌}
use Rattle.std.proofs.lemmas.List.{drop-drop, length-map}
use Rattle.std.proofs.lemmas.List.Sums.{sum_by-cons, sum_by_more, sum_by_more_le}
use Rattle.std.proofs.lemmas.List.FromFn.{get_or-map-range_with_len, length-range_with_len}
use Rattle.cert_reader.specs.Numbers.{table_size}
use Rattle.cert_reader.specs.Sets.{set_sizes, sets_of, starts}
use Rattle.cert_reader.specs.Views.{cut_into}

-- the rows before one, and that one
pub cut_more : (sizes : List ℕ) (xs : List ℤ) (k : ℕ) → k < length sizes → take (k + 1) (cut_into sizes xs) ≡ take k (cut_into sizes xs) ++ take (get_or sizes k 0) (drop (sum (take k sizes)) xs) ∷ []
cut_more [] xs k low = absurd (omega arith)
cut_more (s ∷ sizes) xs zero low = refl
cut_more (s ∷ sizes) xs (suc k) low =
    let next : suc k + 1 ≡ suc (k + 1) = omega arith in
    let long : s + sum (take k sizes) ≡ sum (take (suc k) (s ∷ sizes)) = sym (sum_by-cons (λ n. n) s (take k sizes)) in
    ap (λ n. take n (cut_into (s ∷ sizes) xs)) next ∙ ap (λ rows. take s xs ∷ rows) (cut_more sizes (drop s xs) k (omega arith))
    ∙ ap (λ ys. take s xs ∷ (take k (cut_into sizes (drop s xs)) ++ take (get_or sizes k 0) ys ∷ [])) (drop-drop (sum (take k sizes)) s xs)
    ∙ ap (λ n. take s xs ∷ (take k (cut_into sizes (drop s xs)) ++ take (get_or sizes k 0) (drop n xs) ∷ [])) long

-- there are as many rows as sizes to cut at
pub cut_long : (sizes : List ℕ) (xs : List ℤ) → length (cut_into sizes xs) ≡ length sizes
cut_long [] xs = refl
cut_long (s ∷ sizes) xs = ap suc (cut_long sizes (drop s xs))

-- how many numbers the line of a set has
pub size_of_set : (n set k : ℕ) → k + 1 ≡ set → set < 2 ^ n → get_or (set_sizes n) k 0 ≡ length (starts n set)
size_of_set n set k e low = get_or-map-range_with_len (λ (s : ℕ). length (starts n s)) 1 (2 ^ n - 1) k set 0 (omega arith) (omega arith)

-- n riders have a size for each set but the empty one
pub sizes_long : (n : ℕ) → length (set_sizes n) ≡ 2 ^ n - 1
sizes_long n = length-map (sets_of n) (λ set. length (starts n set)) ∙ length-range_with_len 1 (2 ^ n - 1)

-- the numbers before the line of a set and those of the line are within the table
pub cut_bound : (n set from size : ℕ) (table : List ℤ) → 1 ≤ set → set < 2 ^ n → from ≡ sum (take (set - 1) (set_sizes n)) → size ≡ length (starts n set) → length table ≡ table_size n → from + size ≤ length table
cut_bound n set from size table low high e f long =
    let here = size_of_set n set (set - 1) (omega arith) high in
    let many = sizes_long n in
    let bound = sum_by_more_le (λ k. k) (set_sizes n) (set - 1) 0 (omega (arith, many, low, high)) in
    omega (arith, here, bound, e, f, long)

-- after the numbers of a set begin those of the next set
pub cut_from : (n set from size : ℕ) → 1 ≤ set → set < 2 ^ n → from ≡ sum (take (set - 1) (set_sizes n)) → size ≡ length (starts n set) → from + size ≡ sum (take (set + 1 - 1) (set_sizes n))
cut_from n set from size low high e f =
    let here = size_of_set n set (set - 1) (omega arith) high in
    let many = sizes_long n in
    let next : set - 1 + 1 ≡ set + 1 - 1 = omega arith in
    let more = sum_by_more (λ k. k) (set_sizes n) (set - 1) 0 (omega (arith, many, low, high)) in
    let all : from + size ≡ sum (take (set - 1 + 1) (set_sizes n)) = omega (arith, here, more, e, f) in
    all ∙ ap (λ k. sum (take k (set_sizes n))) next

-- the rows before that of a set, and the row cut from the table
pub cut_row : (n set from size : ℕ) (table numbers : List ℤ) → 1 ≤ set → set < 2 ^ n → from ≡ sum (take (set - 1) (set_sizes n)) → size ≡ length (starts n set) → numbers ≡ table
    → take (set - 1) (cut_into (set_sizes n) table) ++ take (from + size - from) (drop from numbers) ∷ [] ≡ take (set + 1 - 1) (cut_into (set_sizes n) table)
cut_row n set from size table numbers low high e f same =
    let sizes = set_sizes n in
    let many = sizes_long n in
    let here : get_or sizes (set - 1) 0 ≡ from + size - from = (let is = size_of_set n set (set - 1) (omega arith) high in omega (arith, is, f)) in
    let next : set - 1 + 1 ≡ set + 1 - 1 = omega arith in
    let row : take (get_or sizes (set - 1) 0) (drop (sum (take (set - 1) sizes)) table) ≡ take (from + size - from) (drop from numbers) =
    ap (λ k. take k (drop (sum (take (set - 1) sizes)) table)) here ∙ ap (λ k. take (from + size - from) (drop k table)) (sym e) ∙ ap (λ xs. take (from + size - from) (drop from xs)) (sym same) in
    sym (sym (ap (λ k. take k (cut_into sizes table)) next) ∙ cut_more sizes table (set - 1) (omega (arith, many, low, high)) ∙ ap (λ r. take (set - 1) (cut_into sizes table) ++ r ∷ []) row)
