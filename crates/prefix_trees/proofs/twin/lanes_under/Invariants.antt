use Rattle.std.proofs.Common.{take}
use Rattle.nash_bounds.specs.Lanes.{IsLanes}
use Rattle.prefix_trees.proofs.twin.lanes_under.Given as goal

abbrev pub invariant-loop-k : goal.invariant-loop-k
invariant-loop-k l = IsLanes l.case (take l.k l.owners) l.lanes
