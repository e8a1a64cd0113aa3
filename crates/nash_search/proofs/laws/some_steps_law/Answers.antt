use Rattle.nash_search.proofs.SomeStart.{some_start, some_steps}
use Rattle.nash_search.proofs.laws.some_steps_law.Goals as goal

pub returns-clause-start : goal.returns-clause-start
returns-clause-start c = some_start

pub returns-clause-steps : goal.returns-clause-steps
returns-clause-steps c = some_steps
