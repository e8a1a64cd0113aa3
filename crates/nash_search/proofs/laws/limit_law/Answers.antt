use Rattle.nash_search.proofs.OneDivision.{only_over, only_within}
use Rattle.nash_search.proofs.laws.limit_law.Goals as goal

pub returns-clause-within : goal.returns-clause-within
returns-clause-within c = λ case division steps is has. only_within c.steps_law.ensures.one_count case steps division.steps has is.steps is.allowed

pub returns-clause-above : goal.returns-clause-above
returns-clause-above c = λ case over steps is has. only_over c.steps_law.ensures.one_count case steps is.above.0 has is.above.1 is.above.2
