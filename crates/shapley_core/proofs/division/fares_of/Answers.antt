use Rattle.std.proofs.Common.{arith, ◌≡◌, ◌≤◌, ◌-◌, ◌+◌, ◌^◌, ◌∙◌, ℕ, [], ◌∷◌, All, ap, sym, subst, map, length, take, get_or}
use Rattle.std.specs.List.{AllZip, range_with_len}
use Rattle.std.proofs.Math.Seq.{take-length}
use Rattle.std.proofs.lemmas.List.{length-take, length-map, map-append}
use Rattle.std.proofs.lemmas.List.Elements.{All-push}
use Rattle.std.proofs.lemmas.Nat.{pow_pos}
use Rattle.split_frac.specs.Frac.{fraction_of}
use Rattle.bid_rules.specs.declared.cases.FareCase.{FareCase}
use Rattle.bid_rules.specs.Coalitions.{riders_in}
use Rattle.bid_rules.specs.Fares.{sum_of_marginal_costs}
use Rattle.bid_rules.specs.Fractions.{Fraction, IsQuotient}
use Rattle.bid_rules.specs.Orders.{factorial}
use Rattle.split_lemmas.proofs.Zipped.{AllZip-more, length-AllZip}
use Rattle.split_lemmas.proofs.WideNumbers.{kept_whole}
use Rattle.shapley_core.specs.Division.{IsFareInRange}
use Rattle.shapley_core.proofs.division.fares_of.Goals as goal

-- the fare is the mean of the rider's marginal costs
abbrev IsMean : FareCase → ℕ → ℕ → Fraction → Type 0
IsMean case count rider fare = IsQuotient fare (sum_of_marginal_costs case rider) (factorial count)

pub sum_over_orders-requires-clause-low : goal.sum_over_orders-requires-clause-low
sum_over_orders-requires-clause-low c =
    let n = c.args.count in
    let P : ℕ → Type 0 = λ r. (1 ≤ r) × (r ≤ n) in
    let power = pow_pos n in
    let known = (c.coalition_law.ensures.within n (2 ^ n - 1)).0 (omega (arith, power)) in
    let whole = c.as_slice-rider-items.ensures.value ∙ c.riders_of_set-riders.ensures ∙ ap riders_in c.all_riders.ensures in
    let all : All P c.as_slice-rider-items.result.now = subst (All P) (sym whole) known in
    let rider = all c.loop-rider.rider-index 0 c.loop-rider-test.true in
    omega (arith, rider)

pub sum_over_orders-requires-clause-high : goal.sum_over_orders-requires-clause-high
sum_over_orders-requires-clause-high c =
    let n = c.args.count in
    let P : ℕ → Type 0 = λ r. (1 ≤ r) × (r ≤ n) in
    let power = pow_pos n in
    let known = (c.coalition_law.ensures.within n (2 ^ n - 1)).0 (omega (arith, power)) in
    let whole = c.as_slice-rider-items.ensures.value ∙ c.riders_of_set-riders.ensures ∙ ap riders_in c.all_riders.ensures in
    let all : All P c.as_slice-rider-items.result.now = subst (All P) (sym whole) known in
    let rider = all c.loop-rider.rider-index 0 c.loop-rider-test.true in
    omega (arith, rider, c.requires.count)

pub push-requires : goal.push-requires
push-requires c =
    let fares = c.loop-rider.fares.items in
    let same = length-AllZip (IsMean c.args.costs.now c.args.count) (take c.loop-rider.rider-index c.as_slice-rider-items.result.now) (map fraction_of fares) c.loop-rider.invariant.means in
    let pairs = length-map fares fraction_of in
    let long = length-take c.loop-rider.rider-index c.as_slice-rider-items.result.now in
    let test = c.loop-rider-test.true in
    let few = c.as_slice-rider-items.ensures.fits in
    (omega arith, omega (arith, same, pairs, long, test, few))

pub loop-rider-preserved : goal.loop-rider-preserved
loop-rider-preserved c =
    let case = c.args.costs.now in
    let n = c.args.count in
    let riders = c.as_slice-rider-items.result.now in
    let fares = c.loop-rider.fares.items in
    let fare = c.mean.result in
    let i = c.loop-rider.rider-index in
    let mean : IsMean case n (get_or riders i 0) (fraction_of fare) = subst (λ z. IsQuotient (fraction_of fare) z (factorial n)) (kept_whole c.sum_over_orders.result (omega (arith, c.sum_over_orders.ensures.fits)) ∙ c.sum_over_orders.ensures.value) c.mean.ensures.value in
    record {
      means = subst (λ ys. AllZip (IsMean case n) (take (i + 1) riders) ys) (sym (ap (map fraction_of) c.push.ensures.items ∙ map-append fraction_of fares (fare ∷ [])))
          (AllZip-more (IsMean case n) riders (map fraction_of fares) i 0 (fraction_of fare) c.loop-rider-test.true c.loop-rider.invariant.means mean);
      ranges = subst (λ fs. All (IsFareInRange n) fs) (sym c.push.ensures.items) (All-push (IsFareInRange n) fares fare c.loop-rider.invariant.ranges c.mean.ensures.range);
    }

pub returns-clause-means : goal.returns-clause-means
returns-clause-means c =
    let case = c.args.costs.now in
    let n = c.args.count in
    let riders = c.as_slice-rider-items.result.now in
    let fares = c.loop-rider.fares.items in
    let end : length riders ≡ c.loop-rider.rider-index = (let high = c.loop-rider-test.false in let low = c.loop-rider.auto.rider-index-end in omega (arith, high, low)) in
    let whole = c.as_slice-rider-items.ensures.value ∙ c.riders_of_set-riders.ensures ∙ ap riders_in c.all_riders.ensures ∙ c.coalition_law.ensures.all n ∙ ap (range_with_len 1) c.requires.count in
    subst (λ xs. AllZip (IsMean case n) xs (map fraction_of fares)) (ap (λ k. take k riders) (sym end) ∙ take-length riders ∙ whole) c.loop-rider.invariant.means
