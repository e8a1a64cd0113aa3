use Rattle.estate_bounds.proofs.LogLaws.{down_law, up_law}
use Rattle.estate_bounds.proofs.laws.log_law.Goals as goal

pub returns-clause-down : goal.returns-clause-down
returns-clause-down c = down_law

pub returns-clause-up : goal.returns-clause-up
returns-clause-up c = up_law
