use Rattle.std.proofs.Common.{arith, ◌≡◌, ◌<◌, ◌^◌, ◌∙◌, ap, sym, subst, length, slice_index_or}
use Rattle.std.proofs.lemmas.List.{length-map}
use Rattle.bid_rules.specs.Coalitions.{riders_in, start_of}
use Rattle.best_laws.specs.Entries.{costs_from}
use Rattle.set_costs.specs.Table.{route_costs}
use Rattle.set_costs.proofs.TableRows.{entry_is, entry_within, row_is}
use Rattle.set_costs.proofs.recurrence.entry_in.Goals as goal

pub bounds-deref-from : goal.bounds-deref-from
bounds-deref-from c =
    let case = c.args.case.now in
    let is = c.index-rows-from.is ∙ ap (λ n. slice_index_or c.args.rows.now n c.index-rows-from.result) c.from.ensures in
    let row : c.deref.result.now ≡ route_costs case (riders_in c.args.set) = c.deref.ensures.0 ∙ row_is (λ row. row.items) case c.args.rows.now c.args.set c.index-rows-from.result c.requires.rows c.requires.set is in
    subst (λ n. n < length c.deref.result.now) (sym c.from-2.ensures) (entry_within case c.args.set c.args.at c.deref.result.now row c.requires.at)

pub returns-clause-value : goal.returns-clause-value
returns-clause-value c =
    let case = c.args.case.now in
    let is = c.index-rows-from.is ∙ ap (λ n. slice_index_or c.args.rows.now n c.index-rows-from.result) c.from.ensures in
    let row : c.deref.result.now ≡ route_costs case (riders_in c.args.set) = c.deref.ensures.0 ∙ row_is (λ row. row.items) case c.args.rows.now c.args.set c.index-rows-from.result c.requires.rows c.requires.set is in
    ap (λ n. slice_index_or c.deref.result.now n 0) c.from-2.ensures ∙ entry_is case c.args.set c.args.at c.deref.result.now row c.requires.at

pub returns-clause-small : goal.returns-clause-small
returns-clause-small c =
    let case = c.args.case.now in
    let value : slice_index_or c.deref.result.now c.from-2.result 0 ≡ costs_from case c.args.at c.args.set = returns-clause-value c in
    let count = length-map c.args.rows.now (λ row. row.items) in
    let small : c.args.set < 2 ^ length case.at.items = (let few = c.requires.rows.few in let below = c.requires.set in omega (arith, few, below, count)) in
    let riders = c.coalition_law.ensures.count (length case.at.items) c.args.set small in
    let most = c.coalition_law.ensures.riders_count case c.requires.rows.valid in
    let route = c.route_cost_law.ensures.route_small case (start_of case c.args.at) (riders_in c.args.set) c.requires.rows.valid in
    omega (arith, value, riders, most, route)
