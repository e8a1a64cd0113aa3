use Rattle.prefix_trees.proofs.ClosedFronts.{behind_closed, below_closed, longer_closed, own_closed, plain_closed}
use Rattle.prefix_trees.proofs.laws.closed_law.Goals as goal

pub returns-clause-plain : goal.returns-clause-plain
returns-clause-plain c case answer owners valid whole left =
    plain_closed case answer owners (λ rest h. c.bound_law.ensures.below case owners rest valid h) ((c.open_prefixes_law.ensures.left case answer owners).0 left) whole

pub returns-clause-below : goal.returns-clause-below
returns-clause-below c = below_closed

pub returns-clause-twin : goal.returns-clause-twin
returns-clause-twin c case answer twin owners is rest best = absurd (c.twin_law.ensures.never case twin owners rest is best)

pub returns-clause-own : goal.returns-clause-own
returns-clause-own c = own_closed

pub returns-clause-longer : goal.returns-clause-longer
returns-clause-longer c = longer_closed

pub returns-clause-behind : goal.returns-clause-behind
returns-clause-behind c = behind_closed
