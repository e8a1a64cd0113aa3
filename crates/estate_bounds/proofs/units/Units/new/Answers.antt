use Rattle.estate_bounds.proofs.UnitBounds.{whole_in_units}
use Rattle.estate_bounds.proofs.units.Units.new.Goals as goal

pub returns-clause-goal : goal.returns-clause-goal
returns-clause-goal c =
    whole_in_units c.args.case.now c.args.unit c.args.answer.now c.prefix_in_units.result.low.items c.prefix_in_units.result.high.items c.prefix_in_units.result.top c.bound-goal.result c.requires.answer
    c.prefix_in_units.ensures.low c.prefix_in_units.ensures.high c.bound-goal.ensures.greatest
