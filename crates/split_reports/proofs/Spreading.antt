-- A whole that is spread is the sum of its parts.
use Rattle.std.proofs.Common.{◌≡◌, ℕ, zero, suc, ◌+◌, ◌-◌, ◌*◌, ◌/◌, ◌<◌, ◌≤◌, List, [], ◌∷◌, ◌++◌, length, take, sum, refl, sym, ap, ◌∙◌, subst, add-one, arith, get_or}
use Rattle.std.proofs.lemmas.List.FromFn.{map-range_with_len_more, length-map-range_with_len}
use Rattle.std.proofs.lemmas.List.{take_all}
use Rattle.std.proofs.lemmas.List.Sums.{sum_by-cons, sum_by_push, sum_by_more}
use Rattle.std.proofs.Math.Nat.{mul-div_left, div-mul-le_self}
use Rattle.std.proofs.lemmas.Nat.{le-div}
use Rattle.split_reports.specs.TrialSpreads.{share_upto, shares, spread}

-- a greater number has no smaller quotient
quotient_rises : (a b k : ℕ) → 0 < k → a ≤ b → a / k ≤ b / k
quotient_rises a b k some le =
    let small = div-mul-le_self a k in
    le-div (a / k) b k some (omega (arith, small, le))

product_rises : (whole a b : ℕ) → a ≤ b → whole * a ≤ whole * b
product_rises zero a b le = omega arith
product_rises (suc whole) a b le =
    let h = product_rises whole a b le in
    grind (arith, h, le)

pub share_none : (whole : ℕ) (weights : List ℕ) → 0 < sum weights → share_upto whole weights 0 ≡ 0
unfolding share_upto
share_none whole weights some =
    let none : whole * 0 ≡ 0 * sum weights = omega arith in
    ap (λ n. n / sum weights) none ∙ mul-div_left 0 some

pub share_all : (whole : ℕ) (weights : List ℕ) → 0 < sum weights → share_upto whole weights (length weights) ≡ whole
unfolding share_upto
share_all whole weights some =
    ap (λ ws. whole * sum ws / sum weights) (take_all (length weights) weights (omega arith)) ∙ mul-div_left whole some

front_rises : (weights : List ℕ) (j : ℕ) → sum (take j weights) ≤ sum (take (suc j) weights)
front_rises [] zero = omega arith
front_rises [] (suc j) = omega arith
front_rises (w ∷ weights) zero = omega arith
front_rises (w ∷ weights) (suc j) =
    let small = front_rises weights j in
    let one : sum (w ∷ take j weights) ≡ w + sum (take j weights) = sum_by-cons (λ x. x) w (take j weights) in
    let two : sum (w ∷ take (suc j) weights) ≡ w + sum (take (suc j) weights) = sum_by-cons (λ x. x) w (take (suc j) weights) in
    let le : w + sum (take j weights) ≤ w + sum (take (suc j) weights) = omega (arith, small) in
    rw (one, two) le

take_rises : (weights : List ℕ) (j : ℕ) → sum (take j weights) ≤ sum (take (j + 1) weights)
take_rises weights j = rw add-one (front_rises weights j)

pub share_rises : (whole : ℕ) (weights : List ℕ) (j : ℕ) → 0 < sum weights → share_upto whole weights j ≤ share_upto whole weights (j + 1)
unfolding share_upto
share_rises whole weights j some = quotient_rises (whole * sum (take j weights)) (whole * sum (take (j + 1) weights)) (sum weights) some
    (product_rises whole (sum (take j weights)) (sum (take (j + 1) weights)) (take_rises weights j))

pub shares_none : (whole : ℕ) (weights : List ℕ) → shares whole weights 0 ≡ []
unfolding shares
shares_none whole weights = refl

pub shares_more : (whole : ℕ) (weights : List ℕ) (n : ℕ) → shares whole weights (n + 1) ≡ shares whole weights n ++ (share_upto whole weights (n + 1) - share_upto whole weights n) ∷ []
unfolding shares
shares_more whole weights n = map-range_with_len_more (λ j. share_upto whole weights (j + 1) - share_upto whole weights j) 0 n n (omega arith)

-- what is given so far sums to what the first few have together
upto_sum : (whole : ℕ) (weights : List ℕ) (n : ℕ) → 0 < sum weights → sum (shares whole weights n) ≡ share_upto whole weights n
upto_sum whole weights zero some = ap sum (shares_none whole weights) ∙ sym (share_none whole weights some)
upto_sum whole weights (suc n) some =
    let more = ap sum (shares_more whole weights n) ∙ sum_by_push (λ x. x) (shares whole weights n) (share_upto whole weights (n + 1) - share_upto whole weights n) in
    let before = upto_sum whole weights n some in
    let rises = share_rises whole weights n some in
    let last : sum (shares whole weights (n + 1)) ≡ share_upto whole weights (n + 1) = omega (arith, more, before, rises) in
    let same : n + 1 ≡ suc n = omega arith in
    subst (λ (k : ℕ). sum (shares whole weights k) ≡ share_upto whole weights k) same last

pub spread_whole : (whole : ℕ) (weights : List ℕ) → 0 < sum weights → sum (spread whole weights) ≡ whole
spread_whole whole weights some = upto_sum whole weights (length weights) some ∙ share_all whole weights some

pub shares_length : (whole : ℕ) (weights : List ℕ) (n : ℕ) → length (shares whole weights n) ≡ n
unfolding shares
shares_length whole weights n = length-map-range_with_len (λ j. share_upto whole weights (j + 1) - share_upto whole weights j) 0 n

pub share_at : (whole total part n : ℕ) (weights : List ℕ) → total ≡ sum weights → part ≡ sum (take n weights) → whole * part / total ≡ share_upto whole weights n
unfolding share_upto
share_at whole total part n weights all is = ap (λ t. whole * part / t) all ∙ ap (λ p. whole * p / sum weights) is

pub next_sum : (items weights : List ℕ) (i upto : ℕ) → items ≡ weights → i < length items → upto ≡ sum (take i weights) → upto + get_or items i 0 ≡ sum (take (i + 1) weights)
next_sum items weights i upto same inside is =
    ap (λ n. n + get_or items i 0) (is ∙ ap (λ xs. sum (take i xs)) (sym same)) ∙ sym (sum_by_more (λ x. x) items i 0 inside) ∙ ap (λ xs. sum (take (i + 1) xs)) same
