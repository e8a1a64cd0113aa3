-- The welfare of utilities doesn't depend on their order.
use Rattle.std.proofs.Common.{◌≡◌, ℕ, zero, suc, ◌*◌, ◌<◌, ◌≤◌, List, [], ◌∷◌, length, set, get_or, min, max, arith, refl, sym, ap, ◌∙◌, sum_by, ⊎_elim}
use Rattle.std.specs.List.{swap}
use Rattle.std.specs.List.Sorted.{IsPermutation}
use Rattle.std.proofs.Math.Nat.{le_of_mul-le-mul_right}
use Rattle.std.proofs.lemmas.Bool.{cases_eq}
use Rattle.std.proofs.lemmas.List.{length-set, get_or-set_same, get_or-set_other}
use Rattle.std.proofs.lemmas.List.Sorted.{IsPermutation-keeps, sum_by-IsPermutation}
use Rattle.std.proofs.lemmas.List.Sums.{sum_by-cons}
use Rattle.bid_rules.specs.Pairs.{nash_welfare, positives, product}
use Rattle.split_lemmas.proofs.PairOrder.{same_pair}

-- another utility at a place changes the product by its factor
product_set : (us : List ℕ) (i u d : ℕ) → i < length us → product (set us i u) * max (get_or us i d) 1 ≡ product us * max u 1
product_set [] i u d l = absurd (omega arith)
product_set (v ∷ us) zero u d l = omega arith
product_set (v ∷ us) (suc i) u d l =
    let h = product_set us i u d (omega arith) in
    let e : max v 1 * (product (set us i u) * max (get_or us i d) 1) ≡ max v 1 * (product us * max u 1) = ap (λ p. max v 1 * p) h in
    omega arith

-- so two that change places leave it
product_swap : (us : List ℕ) (i j : ℕ) → i < length us → j < length us → product (swap us i j) ≡ product us
product_swap [] i j l m = absurd (omega arith)
product_swap (d ∷ ys) i j l m =
    let us : List ℕ = d ∷ ys in
    let a : ℕ = get_or us i d in
    let b : ℕ = get_or us j d in
    let w : List ℕ = set us i b in
    let long = length-set us i b in
    let there : get_or w j d ≡ b = ⊎_elim
    (λ (e : j ≡ i). ap (λ n. get_or w n d) e ∙ get_or-set_same us i b d l)
    (λ n. get_or-set_other us i j b d n)
    (cases_eq j i) in
    let first : product w * max a 1 ≡ product us * max b 1 = product_set us i b d l in
    let second : product (set w j a) * max b 1 ≡ product w * max a 1 = ap (λ n. product (set w j a) * max n 1) (sym there) ∙ product_set w j a d (omega arith) in
    let both : product (set w j a) * max b 1 ≡ product us * max b 1 = second ∙ first in
    let some : 0 < max b 1 = omega arith in
    let low = le_of_mul-le-mul_right (let h : product (set w j a) * max b 1 ≤ product us * max b 1 = omega arith in h) some in
    let high = le_of_mul-le-mul_right (let h : product us * max b 1 ≤ product (set w j a) * max b 1 = omega arith in h) some in
    omega arith

-- in another order the product is the same
product_permutes : (us vs : List ℕ) → IsPermutation us vs → product vs ≡ product us
product_permutes us vs = IsPermutation-keeps us (λ ws. product ws ≡ product us) refl (λ ws i j l m h. product_swap ws i j l m ∙ h) vs

-- the count as a sum
count_sum : (us : List ℕ) → positives us ≡ sum_by (λ u. min u 1) us
count_sum [] = refl
count_sum (u ∷ us) = let h = count_sum us in let e = sum_by-cons (λ v. min v 1) u us in omega arith

-- and so is the welfare
pub welfare_permutes : (us vs : List ℕ) → IsPermutation us vs → nash_welfare vs ≡ nash_welfare us
welfare_permutes us vs h = same_pair (nash_welfare vs) (nash_welfare us)
    (count_sum vs ∙ sum_by-IsPermutation (λ u. min u 1) us vs h ∙ sym (count_sum us))
    (product_permutes us vs h)
