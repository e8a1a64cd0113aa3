use Rattle.search_workers.proofs.DeskSteps.{join_keeps, join_same}
use Rattle.search_workers.proofs.desk_laws.join_law.Goals as goal

pub returns-clause-keeps : goal.returns-clause-keeps
returns-clause-keeps c = join_keeps

pub returns-clause-same : goal.returns-clause-same
returns-clause-same c = λ place from state view other weight at there. join_same state place from view other weight at there
