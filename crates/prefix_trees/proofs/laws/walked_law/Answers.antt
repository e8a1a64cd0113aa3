use Rattle.prefix_trees.proofs.WalkSteps.{walk_first, walk_last}
use Rattle.prefix_trees.proofs.laws.walked_law.Goals as goal

pub returns-clause-first : goal.returns-clause-first
returns-clause-first g c closing case walk is = walk_first g.C.Closing.IsInner (g.C.Closing.IsLeaf closing) case walk is

pub returns-clause-last : goal.returns-clause-last
returns-clause-last g c closing case taken walk number h = walk_last g.C.Closing.IsInner (g.C.Closing.IsLeaf closing) case taken walk number h
