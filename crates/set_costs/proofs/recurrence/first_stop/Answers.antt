use Rattle.std.proofs.Common.{arith, ℕ, ◌≡◌, ◌≤◌, ◌-◌, ◌∙◌, ap, sym, subst, length, slice_index_or}
use Rattle.std.proofs.lemmas.Nat.{pow_pos}
use Rattle.std.proofs.lemmas.List.Elements.{All-contains}
use Rattle.bid_rules.specs.Coalitions.{riders_in}
use Rattle.bid_rules.specs.Fares.{place_of, route_cost}
use Rattle.best_laws.specs.Entries.{costs_from, without}
use Rattle.split_lemmas.proofs.RiderPlaces.{start_place}
use Rattle.set_costs.specs.declared.stops.FirstStop.{FirstStop}
use Rattle.set_costs.proofs.recurrence.first_stop.Goals as goal

pub overflow_sub-result : goal.overflow_sub-result
overflow_sub-result c =
    let n = length c.args.case.now.at.items in
    let range = All-contains (λ r. (1 ≤ r) × (r ≤ n)) (riders_in c.args.set) c.args.rider ((c.coalition_law.ensures.within n c.args.set).0 c.requires.within) c.requires.rider in
    omega (arith, range.0, c.from.ensures)

pub bounds-deref-from : goal.bounds-deref-from
bounds-deref-from c =
    let n = length c.args.case.now.at.items in
    let range = All-contains (λ r. (1 ≤ r) × (r ≤ n)) (riders_in c.args.set) c.args.rider ((c.coalition_law.ensures.within n c.args.set).0 c.requires.within) c.requires.rider in
    let all = ap length c.deref.ensures.0 in
    omega (arith, range.0, range.1, c.from.ensures, all)

pub without-requires-clause-high : goal.without-requires-clause-high
without-requires-clause-high c =
    let n = length c.args.case.now.at.items in
    let range = All-contains (λ r. (1 ≤ r) × (r ≤ n)) (riders_in c.args.set) c.args.rider ((c.coalition_law.ensures.within n c.args.set).0 c.requires.within) c.requires.rider in
    omega (arith, range.1, c.coalition_law.ensures.riders_count c.args.case.now c.requires.rows.valid)

pub entry_in-requires-clause-at : goal.entry_in-requires-clause-at
entry_in-requires-clause-at c =
    let n = length c.args.case.now.at.items in
    (All-contains (λ r. (1 ≤ r) × (r ≤ n)) (riders_in c.args.set) c.args.rider ((c.coalition_law.ensures.within n c.args.set).0 c.requires.within) c.requires.rider).1

pub entry_in-requires-clause-set : goal.entry_in-requires-clause-set
entry_in-requires-clause-set c =
    let power = pow_pos (c.args.rider - 1) in
    let bit = c.without_rider_law.ensures.number c.args.set c.args.rider c.requires.rider in
    let below = c.requires.set in
    omega (arith, power, bit, below, c.without.ensures)

-- a first stop by its place and the rest
abbrev stop : ℕ → ℕ → FirstStop
stop place rest = record { place = place; rest = rest }

pub returns-clause-value : goal.returns-clause-value
returns-clause-value c =
    let case = c.args.case.now in
    let n = length case.at.items in
    let range = All-contains (λ r. (1 ≤ r) × (r ≤ n)) (riders_in c.args.set) c.args.rider ((c.coalition_law.ensures.within n c.args.set).0 c.requires.within) c.requires.rider in
    let place : slice_index_or c.deref.result.now (c.from.result - 1) 0 ≡ place_of case c.args.rider =
    ap (λ xs. slice_index_or xs (c.from.result - 1) 0) c.deref.ensures.0 ∙ ap (λ k. slice_index_or case.at.items (k - 1) 0) c.from.ensures in
    let rest : c.entry_in.result ≡ route_cost case (place_of case c.args.rider) (riders_in (without c.args.set c.args.rider)) =
    c.entry_in.ensures.value ∙ ap (costs_from case c.args.rider) c.without.ensures ∙ ap (λ from. route_cost case from (riders_in (without c.args.set c.args.rider))) (start_place case c.args.rider range.0) in
    ap (λ at. stop at c.entry_in.result) place ∙ ap (stop (place_of case c.args.rider)) rest

pub returns-clause-known : goal.returns-clause-known
returns-clause-known c =
    let case = c.args.case.now in
    let n = length case.at.items in
    let range = All-contains (λ r. (1 ≤ r) × (r ≤ n)) (riders_in c.args.set) c.args.rider ((c.coalition_law.ensures.within n c.args.set).0 c.requires.within) c.requires.rider in
    let place = c.requires.rows.valid.places (c.from.result - 1) 0 (omega (arith, range.0, range.1, c.from.ensures)) in
    record {
      low = subst (λ xs. 1 ≤ slice_index_or xs (c.from.result - 1) 0) (sym c.deref.ensures.0) place.0;
      high = subst (λ xs. slice_index_or xs (c.from.result - 1) 0 ≤ case.facts.places) (sym c.deref.ensures.0) place.1;
      small = c.entry_in.ensures.small;
    }
