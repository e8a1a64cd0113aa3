-- How often a number comes in a list.
use Rattle.std.proofs.Common.{◌≡◌, ◌≢◌, ℕ, suc, zero, ◌+◌, ◌<◌, ◌≤◌, List, [], ◌∷◌, Contains, cond, ◌==◌, arith, ⊎_elim}
use Rattle.std.specs.List.{sum_by, range_with_len}
use Rattle.std.specs.List.Sorted.{IsPermutation}
use Rattle.std.proofs.lemmas.Bool.{cases_eq}
use Rattle.std.proofs.lemmas.Bool.Decides.{nat_tests}
use Rattle.std.proofs.lemmas.List.Sums.{sum_by-cons}
use Rattle.std.proofs.lemmas.List.Sorted.{sum_by-IsPermutation}

-- 1 at the number, 0 at others
abbrev pub mark : ℕ → ℕ → ℕ
mark a y = cond (y == a) 1 0

-- each number comes at most once in the list
abbrev pub HasNoRepeat : List ℕ → Type 0
HasNoRepeat xs = (a : ℕ) → sum_by (mark a) xs ≤ 1

-- the number itself counts
pub mark_same : (a : ℕ) → mark a a ≡ 1
mark_same a = grind (arith, nat_tests)

-- another does not
pub mark_other : (a y : ℕ) → y ≢ a → mark a y ≡ 0
mark_other a y ne = grind (arith, nat_tests)

-- what is counted is there
pub found : (x : ℕ) (ys : List ℕ) → 0 < sum_by (mark x) ys → Contains ys x
found x [] h = absurd (omega arith)
found x (y ∷ ys) h = ⊎_elim
    (λ e. (0, omega arith, e))
    (λ ne.
    let count : sum_by (mark x) (y ∷ ys) ≡ mark x y + sum_by (mark x) ys = sum_by-cons (mark x) y ys in
    let none : mark x y ≡ 0 = mark_other x y ne in
    let rest = found x ys (omega (arith, count, none, h)) in
    (suc rest.0, (let l = rest.1 in omega arith), rest.2))
    (cases_eq y x)

-- a permutation of a list without repeats has none
pub no_repeat-permutation : (xs ys : List ℕ) → IsPermutation xs ys → HasNoRepeat xs → HasNoRepeat ys
no_repeat-permutation xs ys p once a = omega (arith, sum_by-IsPermutation (mark a) xs ys p, once a)

-- a number below the first is not among numbers in a row
none_below : (a from n : ℕ) → a < from → sum_by (mark a) (range_with_len from n) ≡ 0
none_below a from zero l = omega arith
none_below a from (suc n) l =
    let count : sum_by (mark a) (range_with_len from (suc n)) ≡ mark a from + sum_by (mark a) (range_with_len (from + 1) n) = sum_by-cons (mark a) from (range_with_len (from + 1) n) in
    let other : from ≢ a = λ e. omega arith in
    let here : mark a from ≡ 0 = mark_other a from other in
    let rest = none_below a (from + 1) n (omega arith) in
    omega (arith, count, here, rest)

-- numbers in a row have no repeat
pub no_repeat-range : (from n : ℕ) → HasNoRepeat (range_with_len from n)
no_repeat-range from zero a = omega arith
no_repeat-range from (suc n) a =
    let count : sum_by (mark a) (range_with_len from (suc n)) ≡ mark a from + sum_by (mark a) (range_with_len (from + 1) n) = sum_by-cons (mark a) from (range_with_len (from + 1) n) in
    let rest : sum_by (mark a) (range_with_len (from + 1) n) ≤ 1 = no_repeat-range (from + 1) n a in
    ⊎_elim
    (λ (e : from ≡ a).
    let here : mark a from ≤ 1 = grind (arith, nat_tests) in
    let none = none_below a (from + 1) n (omega arith) in
    omega (arith, count, here, none))
    (λ (other : from ≢ a). let here : mark a from ≡ 0 = mark_other a from other in omega (arith, count, here, rest))
    (cases_eq from a)
