use Rattle.nash_bounds.proofs.OpenCounts.{open_few}
use Rattle.nash_bounds.proofs.OpenPrefixes.{left_is, left_reached}
use Rattle.nash_bounds.proofs.step_laws.open_prefixes_law.Goals as goal

pub returns-clause-left : goal.returns-clause-left
returns-clause-left c = left_is

pub returns-clause-reached : goal.returns-clause-reached
returns-clause-reached c = left_reached

pub returns-clause-few : goal.returns-clause-few
returns-clause-few c = open_few
