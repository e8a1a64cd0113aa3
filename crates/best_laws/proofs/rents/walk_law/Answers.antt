use Rattle.best_laws.proofs.WalkWeights.{greatest_shown, one_ranks, one_weights, ranks_attain, ranks_shown, shown_greatest}
use Rattle.best_laws.proofs.rents.walk_law.Goals as goal

pub returns-clause-shown : goal.returns-clause-shown
returns-clause-shown c n step weights = (shown_greatest n step weights, greatest_shown n step weights)

pub returns-clause-ranks : goal.returns-clause-ranks
returns-clause-ranks c = ranks_attain

pub returns-clause-least_ranks : goal.returns-clause-least_ranks
returns-clause-least_ranks c = ranks_shown

pub returns-clause-one_weights : goal.returns-clause-one_weights
returns-clause-one_weights c = one_weights

pub returns-clause-one_ranks : goal.returns-clause-one_ranks
returns-clause-one_ranks c = one_ranks
