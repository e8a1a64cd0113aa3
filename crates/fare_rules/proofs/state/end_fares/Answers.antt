use Rattle.std.proofs.Common.{arith, ◌^◌, ◌∙◌, ap, sym, subst, length}
use Rattle.std.proofs.lemmas.List.{length-map}
use Rattle.bid_rules.specs.declared.cases.FareCase.{FareCase}
use Rattle.split_frac.specs.Frac.{fraction_of}
use Rattle.fare_rules.specs.Head.{AreCostLines}
use Rattle.fare_rules.specs.Printed.{printed_case}
use Rattle.fare_rules.specs.State.{StandsFor, costs_of}
use Rattle.fare_rules.proofs.EndRules.{broken}
use Rattle.fare_rules.proofs.LineLaws.{are_costs, has_lines}
use Rattle.fare_rules.proofs.SetLines.{rider_count}
use Rattle.fare_rules.proofs.state.end_fares.Goals as goal

pub returns-in-Broken : goal.returns-in-Broken
returns-in-Broken c view stands full route fares stops paid =
    let bits = c.coalition_law.ensures in
    let rest = c.without_rider_law.ensures in
    let sets = c.route_set_law.ensures in
    broken view c.in-Broken.rule (costs_of c.args.rows.now.items) (are_costs bits.bits bits.within rest.number rest.apart sets.none sets.recurrence sets.entries (printed_case view) (length view.at) view.sets) full
    (subst (λ state. StandsFor view view.sets state (costs_of c.args.rows.now.items)) c.in-Broken.is stands)

pub returns-in-Filling : goal.returns-in-Filling
returns-in-Filling c view stands full route fares stops paid =
    let now = subst (λ state. StandsFor view view.sets state (costs_of c.args.rows.now.items)) c.in-Filling.is stands in
    let case = c.in-Filling.case in
    let count = rider_count view case now.1 in
    let bits = c.coalition_law.ensures in
    let rest = c.without_rider_law.ensures in
    let sets = c.route_set_law.ensures in
    let n = length view.at in
    let long = sym (length-map c.args.rows.now.items (λ row. row.items)) ∙ now.3 in
    let power = ap (λ m. 2 ^ m) count in
    let are = subst (λ (k : FareCase). AreCostLines k n view.sets) now.1 now.4 in
    let lines = has_lines bits.bits bits.within rest.number rest.apart sets.none sets.recurrence sets.entries (printed_case view) n view.sets are (omega (arith, full)) in
    c.end_filling.ensures (omega (arith, ap length c.as_slice.ensures.value, long, full, power)) (ap length (sym route) ∙ stops ∙ sym count) (sym (length-map c.args.fares.now fraction_of) ∙ ap length (sym fares) ∙ paid ∙ sym count)
    view now.0 now.1 lines route fares
