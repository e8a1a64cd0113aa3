use Rattle.prefix_trees.proofs.WalkForks.{last_fork}
use Rattle.prefix_trees.proofs.walk.lanes_at.Goals as goal

pub give-requires-clause-lanes : goal.give-requires-clause-lanes
give-requires-clause-lanes c = last_fork c.args.case.now c.args.owners.now c.in-Some.above.now c.in-Some.owner.now c.args.forks.now _ c.in-Some.ensures.cases.0 c.requires.forks
