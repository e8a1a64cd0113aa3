use Rattle.prefix_trees.proofs.ClosedFronts.{alone_best, fronts_best}
use Rattle.prefix_trees.proofs.laws.closed_fronts_law.Goals as goal

pub returns-clause-alone : goal.returns-clause-alone
returns-clause-alone c case answer valid none = alone_best case answer (c.serving_law.ensures.exists case valid) none

pub returns-clause-fronts : goal.returns-clause-fronts
returns-clause-fronts c case answer valid each = fronts_best case answer (c.serving_law.ensures.exists case valid) each
