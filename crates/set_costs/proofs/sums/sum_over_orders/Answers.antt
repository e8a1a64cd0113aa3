use Rattle.std.proofs.Common.{arith, ◌≡◌, ◌≤◌, ◌*◌, ◌^◌, ◌∙◌, ◌++◌, ◌∷◌, [], Contains, length, unsigned_abs, to_z, of_z, FitsSigned, rules, ap, sym, subst}
use Rattle.std.specs.Int.{w64}
use Rattle.std.proofs.Math.Pow.{pow_mono}
use Rattle.std.proofs.lemmas.Int.{to_z-of_z}
use Rattle.std.proofs.lemmas.List.{length-append}
use Rattle.std.proofs.lemmas.List.FromFn.{length-range_with_len}
use Rattle.bid_rules.specs.declared.limits.TheConstants.{MOST_RIDERS}
use Rattle.bid_rules.specs.Coalitions.{riders_in}
use Rattle.bid_rules.specs.FareLimits.{most_cost}
use Rattle.bid_rules.specs.Orders.{factorial}
use Rattle.best_laws.specs.MarginalSums.{marginal_sum}
use Rattle.set_costs.proofs.SetSums.{kept_whole, lists_more, rider_of_all, sum_small}
use Rattle.set_costs.proofs.sums.sum_over_orders.Goals as goal

pub push-requires : goal.push-requires
push-requires c =
    let most = c.coalition_law.ensures.riders_count c.args.costs.now c.requires.valid in
    let room : 2 ^ c.args.count ≤ 2 ^ MOST_RIDERS = pow_mono {i = c.args.count} {j = MOST_RIDERS} (omega (arith, most, c.requires.count)) in
    let test = c.loop-test.true in
    (omega arith, omega (arith, room, c.loop.invariant.count, c.all_riders-all.ensures, test))

pub loop-preserved : goal.loop-preserved
loop-preserved c =
    let old = c.loop.sums.items in
    let items = c.push.ensures.items in
    let range : FitsSigned w64 c.next_sum-sum.result = search rules in
    let same : to_z w64 (of_z w64 c.next_sum-sum.result) ≡ c.next_sum-sum.result = to_z-of_z w64 c.next_sum-sum.result range in
    record {
      count = (let long = ap length items ∙ length-append old _ in let count = c.loop.invariant.count in omega (arith, long, count));
      sums = lists_more c.args.costs.now c.args.rider old c.push.new.self.items c.next_sum-sum.result (items ∙ ap (λ z. old ++ z ∷ []) same)
          (subst (λ zs. Contains (riders_in (length zs)) c.args.rider → c.next_sum-sum.result ≡ marginal_sum c.args.costs.now c.args.rider (riders_in (length zs))) c.as_slice.ensures.value c.next_sum-sum.ensures) c.loop.invariant.sums;
    }

pub sum_of_set-requires-clause-rider : goal.sum_of_set-requires-clause-rider
sum_of_set-requires-clause-rider c =
    subst (λ s. Contains (riders_in s) c.args.rider) (sym c.all_riders-all.ensures) (rider_of_all c.args.count c.args.rider (c.coalition_law.ensures.all c.args.count) c.requires.low c.requires.high)

pub returns-clause-small : goal.returns-clause-small
returns-clause-small c =
    let case = c.args.costs.now in
    let most = c.coalition_law.ensures.riders_count case c.requires.valid in
    let few : c.args.count ≤ MOST_RIDERS = omega (arith, most, c.requires.count) in
    let whole : length (riders_in c.all_riders-all.result) ≡ c.args.count =
    ap (λ s. length (riders_in s)) c.all_riders-all.ensures ∙ ap length (c.coalition_law.ensures.all c.args.count) ∙ length-range_with_len 1 c.args.count in
    let small : unsigned_abs c.sum_of_set.result ≤ most_cost * factorial c.args.count = subst (λ n. unsigned_abs c.sum_of_set.result ≤ most_cost * factorial n) whole c.sum_of_set.ensures.small in
    subst (λ z. unsigned_abs z ≤ most_cost * factorial c.args.count) (sym (kept_whole c.sum_of_set.result (omega (arith, sum_small c.sum_of_set.result c.args.count small few)))) small
