use Rattle.std.proofs.Common.{arith, ◌≡◌, ◌<◌, ◌+◌, ◌∙◌, ℕ, pos, List, length, map, get_or, ap, sym, subst, IsTrue, false, refl, below_more}
use Rattle.std.proofs.lemmas.List.{get_or-map}
use Rattle.bid_rules.specs.Fractions.{IsQuotient}
use Rattle.bid_rules.specs.Orders.{factorial}
use Rattle.split_frac.specs.Frac.{fraction_of}
use Rattle.split_frac.specs.declared.frac.Frac.{Frac}
use Rattle.split_lemmas.proofs.WideNumbers.{kept_whole}
use Rattle.fare_rules.proofs.Means.{IsMean, means_from_each, mean_of_each}
use Rattle.fare_rules.proofs.fares.are_means.Goals as goal

-- the fare at a place, as a pair
fare_at : (fares : List Frac) (k : ℕ) (fare : Frac) → k < length fares → get_or fares k fare ≡ fare → get_or (map fraction_of fares) k (pos 0, 1) ≡ fraction_of fare
fare_at fares k fare l is = get_or-map fraction_of fares k fare (pos 0, 1) l ∙ ap fraction_of is

pub returns-then-not-is_mean : goal.returns-then-not-is_mean
returns-then-not-is_mean c = (
  λ (f : IsTrue false). absurd (cc),
  λ all.
      let case = c.args.costs.now in
      let k : ℕ = c.loop-k.k in
      let test = c.loop-k-test.true in
      let here = mean_of_each case c.args.count c.args.fares.now c.requires.count all k test in
      let fare = c.index-fares-from.result in
      let at = fare_at c.args.fares.now k fare (omega (arith, test, c.requires.fares)) (ap (λ n. get_or c.args.fares.now n fare) (sym c.from.ensures) ∙ sym c.index-fares-from.is) in
      let sum = kept_whole c.sum_over_orders-sum.result (omega (arith, c.sum_over_orders-sum.ensures.fits)) ∙ c.sum_over_orders-sum.ensures.value in
      let mean = subst (λ z. IsQuotient (fraction_of fare) z (factorial c.args.count)) (sym sum) (subst (IsMean case c.args.count (k + 1)) at here) in
      let back = c.is_mean.ensures.1 mean in
      let never = c.if-not-is_mean.true in
      cc,
)

pub loop-k-preserved : goal.loop-k-preserved
loop-k-preserved c =
    let case = c.args.costs.now in
    let k : ℕ = c.loop-k.k in
    let fare = c.index-fares-from.result in
    let test = c.loop-k-test.true in
    let at = fare_at c.args.fares.now k fare (omega (arith, test, c.requires.fares)) (ap (λ n. get_or c.args.fares.now n fare) (sym c.from.ensures) ∙ sym c.index-fares-from.is) in
    let sum = kept_whole c.sum_over_orders-sum.result (omega (arith, c.sum_over_orders-sum.ensures.fits)) ∙ c.sum_over_orders-sum.ensures.value in
    let told = c.is_mean.ensures.0 c.if-not-is_mean.false in
    let mean : IsMean case c.args.count (k + 1) (get_or (map fraction_of c.args.fares.now) k (pos 0, 1)) =
    subst (IsMean case c.args.count (k + 1)) (sym at) (subst (λ z. IsQuotient (fraction_of fare) z (factorial c.args.count)) sum told) in
    below_more (λ i. IsMean case c.args.count (i + 1) (get_or (map fraction_of c.args.fares.now) i (pos 0, 1))) k c.loop-k.invariant mean

pub returns : goal.returns
returns c = (
  λ _. means_from_each c.args.costs.now c.args.count c.args.fares.now c.requires.count c.requires.fares (λ i l. c.loop-k.invariant i (let end = c.loop-k-test.false in omega (arith, end, l))),
  λ _. refl,
)
