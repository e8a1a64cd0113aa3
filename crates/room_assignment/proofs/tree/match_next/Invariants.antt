use Rattle.room_assignment.specs.Tree.{IsTreeOf, missing}
use Rattle.room_assignment.proofs.tree.match_next.Given as goal

abbrev pub invariant-loop-tree : goal.invariant-loop-tree
invariant-loop-tree l = IsTreeOf l.matched l.keys l.tree

abbrev pub decreases-loop-tree : goal.decreases-loop-tree
decreases-loop-tree l = missing l.tree.in_tree.items
