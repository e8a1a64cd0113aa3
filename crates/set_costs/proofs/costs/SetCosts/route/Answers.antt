use Rattle.std.proofs.Common.{arith, ◌≤◌, ◌-◌, ◌^◌, ◌∙◌, [], length, subst, ap}
use Rattle.std.proofs.lemmas.List.{append-nil, length-append}
use Rattle.std.proofs.lemmas.List.Elements.{All-contains}
use Rattle.std.proofs.lemmas.List.Sorted.{length_permutation}
use Rattle.bid_rules.specs.declared.cases.FareCase.{FareCase}
use Rattle.bid_rules.specs.declared.limits.TheConstants.{MOST_RIDERS}
use Rattle.bid_rules.specs.Coalitions.{riders_in, start_of}
use Rattle.best_laws.specs.Entries.{IsLowestRoute, costs_from}
use Rattle.set_costs.proofs.LeastRoutes.{IsFirst, goes_further}
use Rattle.set_costs.proofs.costs.SetCosts.route.Goals as goal

pub without-set-requires-clause-high : goal.without-set-requires-clause-high
without-set-requires-clause-high c =
    let case = c.args.self.now in
    let n = length case.at.items in
    let known = (All-contains (λ r. (1 ≤ r) × (r ≤ n)) (riders_in c.loop-set.set) c.first_rider-rider.result ((c.coalition_law.ensures.within n c.loop-set.set).0 c.loop-set.invariant.set) c.first_rider-rider.ensures.rider).1 in
    let valid = subst (λ (k : FareCase). length k.at.items ≤ MOST_RIDERS) c.self.view_is (c.coalition_law.ensures.riders_count c.self.inside.case.now c.self.invariant.lists.valid) in
    omega (arith, known, valid)

pub loop-set-preserved : goal.loop-set-preserved
loop-set-preserved c =
    let case = c.args.self.now in
    let n = length case.at.items in
    let set = c.loop-set.set in
    let rider = c.first_rider-rider.result in
    let there = c.first_rider-rider.ensures.rider in
    let within = (c.coalition_law.ensures.within n set).0 c.loop-set.invariant.set in
    let found : IsFirst c.self.inside.case.now c.start.result set rider = record { there = there; cheapest = c.first_rider-rider.ensures.cheapest; lowest = c.first_rider-rider.ensures.lowest } in
    let first : IsFirst case (start_of case c.loop-set.at) set rider =
    subst (λ (k : FareCase). IsFirst k (start_of k c.loop-set.at) set rider) c.self.view_is (subst (λ from. IsFirst c.self.inside.case.now from set rider) c.start.ensures.value found) in
    let others = length_permutation (riders_in set) _ (c.without_rider_law.ensures.others set rider there) in
    let left = ap (λ s. length (riders_in s)) c.without-set.ensures in
    let longer = ap length c.push.ensures.items ∙ length-append c.loop-set.route.items _ in
    let room = c.loop-set.invariant.room in
    let small = c.loop-set.invariant.set in
    record {
      at = (All-contains (λ r. (1 ≤ r) × (r ≤ n)) (riders_in set) rider within there).1;
      set = (let is = c.without-set.ensures in omega (arith, is, small));
      room = omega (arith, others, left, longer, room);
      goes_on = goes_further case c.loop-set.at set rider c.without-set.result c.loop-set.route.items c.push.new.self.items
          (λ other here. (All-contains (λ r. (1 ≤ r) × (r ≤ n)) (riders_in set) other within here).0) first c.without-set.ensures c.push.ensures.items c.loop-set.invariant.goes_on;
    }

pub returns : goal.returns
returns c =
    let case = c.args.self.now in
    let n = length case.at.items in
    c.lowest_route_law.ensures.least case (costs_from case) c.loop-set.route.items (c.route_set_law.ensures.costs case n)
    (subst (IsLowestRoute case (costs_from case) 0 (2 ^ n - 1)) (append-nil c.loop-set.route.items) (c.loop-set.invariant.goes_on [] c.loop-set-test.false))
