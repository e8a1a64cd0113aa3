use Rattle.std.proofs.Common.{arith, ◌≡◌, ◌+◌, ◌∙◌, ℕ, ap, length, map}
use Rattle.std.specs.List.{range_with_len}
use Rattle.std.proofs.lemmas.List.FromFn.{length-map-range_with_len}
use Rattle.bid_rules.specs.declared.cases.FareCase.{FareCase}
use Rattle.bid_rules.specs.Coalitions.{riders_in, start_of}
use Rattle.bid_rules.specs.Fares.{route_cost}
use Rattle.set_costs.proofs.TableRows.{listed_by_index, route_is}
use Rattle.set_costs.proofs.rows.next_row.Goals as goal

-- what the route of a set costs from a place of departure
abbrev cost_at : FareCase → ℕ → ℕ → ℕ
cost_at case set at = route_cost case (start_of case at) (riders_in set)

pub push-requires : goal.push-requires
push-requires c =
    let case = c.args.case.now in
    let long = ap length c.loop-at.invariant ∙ length-map-range_with_len (cost_at case (length c.args.rows.now)) 0 c.loop-at.at in
    let most = c.coalition_law.ensures.riders_count case c.requires.rows.valid in
    let test = c.loop-at-test.true in
    let end = c.len-at-end.ensures.value in
    (omega arith, omega (arith, long, most, test, end))

pub loop-at-preserved : goal.loop-at-preserved
loop-at-preserved c =
    let case = c.args.case.now in
    let set = length c.args.rows.now in
    listed_by_index (cost_at case set) c.loop-at.row.items c.push.new.self.items c.loop-at.at c.cheapest.result
    (c.cheapest.ensures
    ∙ route_is case c.start.result set c.as_slice.result.now (c.as_slice.ensures.value ∙ c.first_stops-stops.ensures.values) (c.coalition_law.ensures.all 0)
    (c.route_set_law.ensures.none case c.start.result) (c.route_set_law.ensures.recurrence case c.start.result set)
    ∙ ap (λ from. route_cost case from (riders_in set)) c.start.ensures.value) c.push.ensures.items c.loop-at.invariant

pub returns-2 : goal.returns-2
returns-2 c =
    let case = c.args.case.now in
    let set = length c.args.rows.now in
    let last : c.loop-at.at ≡ length case.at.items = omega arith in
    listed_by_index (cost_at case set) c.loop-at.row.items c.push.new.self.items c.loop-at.at c.cheapest.result
    (c.cheapest.ensures
    ∙ route_is case c.start.result set c.as_slice.result.now (c.as_slice.ensures.value ∙ c.first_stops-stops.ensures.values) (c.coalition_law.ensures.all 0)
    (c.route_set_law.ensures.none case c.start.result) (c.route_set_law.ensures.recurrence case c.start.result set)
    ∙ ap (λ from. route_cost case from (riders_in set)) c.start.ensures.value) c.push.ensures.items c.loop-at.invariant
    ∙ ap (λ n. map (cost_at case set) (range_with_len 0 (n + 1))) last
