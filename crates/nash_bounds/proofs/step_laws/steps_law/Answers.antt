use Rattle.nash_bounds.proofs.ServingBest.{steps-le, steps_before-none}
use Rattle.nash_bounds.proofs.OneStartValue.{one_count, same_value}
use Rattle.nash_bounds.proofs.step_laws.steps_law.Goals as goal

pub returns-clause-one_start : goal.returns-clause-one_start
returns-clause-one_start c = same_value

pub returns-clause-one_count : goal.returns-clause-one_count
returns-clause-one_count c = one_count

pub returns-clause-none : goal.returns-clause-none
returns-clause-none c = steps_before-none

pub returns-clause-rises : goal.returns-clause-rises
returns-clause-rises c = steps-le
