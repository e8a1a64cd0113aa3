use Rattle.std.proofs.Common.{◌≡◌, ◌∙◌, length, map, ap, sym, subst, unsigned_abs}
use Rattle.bid_rules.specs.declared.cases.FareCase.{FareCase}
use Rattle.bid_rules.specs.Fares.{IsLeastRoute}
use Rattle.split_frac.specs.Frac.{fraction_of}
use Rattle.fare_rules.specs.Printed.{printed_case, printed_route}
use Rattle.fare_rules.proofs.EndRules.{all_kept, fares_broken, four_kept, has_route, means_of, no_order, route_broken, route_kept, tested_means, tested_route, three_kept, two_kept}
use Rattle.fare_rules.proofs.LineLaws.{are_entries}
use Rattle.fare_rules.proofs.SetLines.{rider_count}
use Rattle.fare_rules.proofs.ending.verdict_of.Goals as goal

pub returns-in_default : goal.returns-in_default
returns-in_default c view has is lines route fares =
    let count = c.len-count.ensures.value ∙ rider_count view c.args.case.now is in
    no_order view (two_kept view has lines) (λ h. c.in_default.ensures (tested_route view c.args.route.now c.len-count.result route count h))

pub returns-then-not-are_same : goal.returns-then-not-are_same
returns-then-not-are_same c view has is lines route fares =
    let case = c.args.case.now in
    let costs = c.new-costs.ensures ∙ is in
    let count = c.len-count.ensures.value ∙ rider_count view case is in
    let kept = three_kept view (two_kept view has lines) (has_route view c.args.route.now c.len-count.result route count c.in-Some.ensures.0 c.in-Some.ensures.1) in
    let bits = c.coalition_law.ensures in
    let rest = c.without_rider_law.ensures in
    let sets = c.route_set_law.ensures in
    let entries = are_entries bits.bits bits.within rest.number rest.apart sets.none sets.recurrence sets.entries (printed_case view) (length view.at) view.sets lines in
    let least = subst (λ (k : FareCase). IsLeastRoute k c.route-least.result.items) costs c.route-least.ensures in
    let order : printed_route view ≡ c.in-Some.order.items = ap (map unsigned_abs) route ∙ sym c.in-Some.ensures.2 in
    route_broken (bits.all 0) c.lowest_route_law.ensures.least c.lowest_route_law.ensures.only view c.route-least.result.items entries least
    (λ same. let back = c.are_same.ensures.1 (c.as_slice.ensures.value ∙ sym order ∙ same ∙ sym c.as_slice-2.ensures.value) in let never = c.if-not-are_same.true in cc)
    kept

pub returns-then-not-are_means : goal.returns-then-not-are_means
returns-then-not-are_means c view has is lines route fares =
    let case = c.args.case.now in
    let costs = c.new-costs.ensures ∙ is in
    let count = c.len-count.ensures.value ∙ rider_count view case is in
    let kept = three_kept view (two_kept view has lines) (has_route view c.args.route.now c.len-count.result route count c.in-Some.ensures.0 c.in-Some.ensures.1) in
    let bits = c.coalition_law.ensures in
    let rest = c.without_rider_law.ensures in
    let sets = c.route_set_law.ensures in
    let entries = are_entries bits.bits bits.within rest.number rest.apart sets.none sets.recurrence sets.entries (printed_case view) (length view.at) view.sets lines in
    let least = subst (λ (k : FareCase). IsLeastRoute k c.route-least.result.items) costs c.route-least.ensures in
    let order : printed_route view ≡ c.in-Some.order.items = ap (map unsigned_abs) route ∙ sym c.in-Some.ensures.2 in
    let same = order ∙ sym c.as_slice.ensures.value ∙ c.are_same.ensures.0 c.if-not-are_same.false ∙ c.as_slice-2.ensures.value in
    let fourth = route_kept (bits.all 0) c.lowest_route_law.ensures.least c.lowest_route_law.ensures.only view c.route-least.result.items entries least same in
    fares_broken view (four_kept view kept fourth)
    (λ means. let back = c.are_means.ensures.1 (tested_means view c.new-costs.result c.len-count.result (map fraction_of c.args.fares.now) costs count fares means) in let never = c.if-not-are_means.true in cc)

pub returns : goal.returns
returns c view has is lines route fares =
    let case = c.args.case.now in
    let costs = c.new-costs.ensures ∙ is in
    let count = c.len-count.ensures.value ∙ rider_count view case is in
    let kept = three_kept view (two_kept view has lines) (has_route view c.args.route.now c.len-count.result route count c.in-Some.ensures.0 c.in-Some.ensures.1) in
    let bits = c.coalition_law.ensures in
    let rest = c.without_rider_law.ensures in
    let sets = c.route_set_law.ensures in
    let entries = are_entries bits.bits bits.within rest.number rest.apart sets.none sets.recurrence sets.entries (printed_case view) (length view.at) view.sets lines in
    let least = subst (λ (k : FareCase). IsLeastRoute k c.route-least.result.items) costs c.route-least.ensures in
    let order : printed_route view ≡ c.in-Some.order.items = ap (map unsigned_abs) route ∙ sym c.in-Some.ensures.2 in
    let same = order ∙ sym c.as_slice.ensures.value ∙ c.are_same.ensures.0 c.if-not-are_same.false ∙ c.as_slice-2.ensures.value in
    let fourth = route_kept (bits.all 0) c.lowest_route_law.ensures.least c.lowest_route_law.ensures.only view c.route-least.result.items entries least same in
    all_kept view (four_kept view kept fourth)
    (means_of view c.new-costs.result c.len-count.result (map fraction_of c.args.fares.now) costs count fares (c.are_means.ensures.0 c.if-not-are_means.false))
