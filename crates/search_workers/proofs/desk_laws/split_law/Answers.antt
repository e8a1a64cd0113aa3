use Rattle.search_workers.proofs.DeskSteps.{split_keeps, split_same}
use Rattle.search_workers.proofs.desk_laws.split_law.Goals as goal

pub returns-clause-keeps : goal.returns-clause-keeps
returns-clause-keeps c = split_keeps

pub returns-clause-same : goal.returns-clause-same
returns-clause-same c = λ place state view weight at some. split_same state place view weight at some
