use Rattle.nash_bounds.proofs.ServingBest.{best_of_all, serves_best, serves_next, serves_none, steps_block}
use Rattle.nash_bounds.proofs.step_laws.serving_law.Goals as goal

pub returns-clause-begins : goal.returns-clause-begins
returns-clause-begins c = serves_none

pub returns-clause-counts : goal.returns-clause-counts
returns-clause-counts c = steps_block

pub returns-clause-goes_on : goal.returns-clause-goes_on
returns-clause-goes_on c = serves_next

pub returns-clause-best : goal.returns-clause-best
returns-clause-best c = serves_best

pub returns-clause-exists : goal.returns-clause-exists
returns-clause-exists c = λ case valid. let all = best_of_all case valid in (all.0, all.2)
