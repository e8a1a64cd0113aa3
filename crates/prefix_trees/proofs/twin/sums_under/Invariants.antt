use Rattle.std.proofs.Common.{◌≡◌, take}
use Rattle.nash_bounds.specs.Lanes.{by_lane, has}
use Rattle.prefix_trees.proofs.twin.sums_under.Given as goal

abbrev pub invariant-loop-k : goal.invariant-loop-k
invariant-loop-k l = l.sums ≡ by_lane (has l.case (take l.k l.owners))
