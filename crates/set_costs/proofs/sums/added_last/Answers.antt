use Rattle.std.proofs.Common.{arith, ◌≡◌, ◌≤◌, ◌-ℤ◌, ◌*ℤ◌, ◌∙◌, pos, length, ap, sym, subst, unsigned_abs, to_z}
use Rattle.std.specs.Int.{w64}
use Rattle.bid_rules.specs.Coalitions.{riders_in}
use Rattle.bid_rules.specs.Fares.{coalition_cost}
use Rattle.best_laws.specs.Entries.{without}
use Rattle.set_costs.proofs.LastRiders.{rider_high}
use Rattle.set_costs.proofs.SetSums.{added_is, fits_whole, kept, kept_whole, most_part}
use Rattle.set_costs.proofs.sums.added_last.Goals as goal
use Rattle.set_costs.proofs.sums.added_last.Goals.{After-from-2}

pub without-requires-clause-high : goal.without-requires-clause-high
without-requires-clause-high c =
    let case = c.args.costs.now in
    let n = length case.at.items in
    rider_high n c.args.set c.args.rider ((c.coalition_law.ensures.within n c.args.set).0 c.requires.set) (c.coalition_law.ensures.riders_count case c.requires.valid) c.requires.rider

-- what the rider adds, once for each order of the others
added : (c : After-from-2) → (kept (kept c.from.result -ℤ kept c.from-2.result) *ℤ to_z w64 c.args.orders
    ≡ (pos (coalition_cost c.args.costs.now (riders_in c.args.set)) -ℤ pos (coalition_cost c.args.costs.now (riders_in (without c.args.set c.args.rider)))) *ℤ pos c.args.orders)
    × (unsigned_abs (kept (kept c.from.result -ℤ kept c.from-2.result) *ℤ to_z w64 c.args.orders) ≤ most_part)
added c =
    let case = c.args.costs.now in
    let after = c.cost_of.ensures.value in
    let after_small = c.cost_of.ensures.small in
    let before = c.cost_of-2.ensures.value ∙ ap (λ s. coalition_cost case (riders_in s)) c.without.ensures in
    let before_small = c.cost_of-2.ensures.small in
    added_is c.from.result c.from-2.result (coalition_cost case (riders_in c.args.set)) (coalition_cost case (riders_in (without c.args.set c.args.rider))) c.args.orders
    (c.from.ensures ∙ ap pos after) (c.from-2.ensures ∙ ap pos before) (omega (arith, after, after_small)) (omega (arith, before, before_small)) c.requires.few

pub overflow_mul-result : goal.overflow_mul-result
overflow_mul-result c = let small = (added c).1 in fits_whole (kept (kept c.from.result -ℤ kept c.from-2.result) *ℤ to_z w64 c.args.orders) (omega (arith, small))

pub returns-clause-value : goal.returns-clause-value
returns-clause-value c =
    let small = (added c).1 in kept_whole (kept (kept c.from.result -ℤ kept c.from-2.result) *ℤ to_z w64 c.args.orders) (omega (arith, small)) ∙ (added c).0

pub returns-clause-small : goal.returns-clause-small
returns-clause-small c =
    let small = (added c).1 in
    subst (λ z. unsigned_abs z ≤ most_part) (sym (kept_whole (kept (kept c.from.result -ℤ kept c.from-2.result) *ℤ to_z w64 c.args.orders) (omega (arith, small)))) small
