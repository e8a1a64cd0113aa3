use Rattle.std.proofs.Common.{ℕ, pos, ◌<◌, ◌≤ℤ◌}
use Rattle.room_assignment.specs.declared.limits.TheConstants.{MOST_KEY}
use Rattle.room_assignment.specs.Matrix.{entry}
use Rattle.room_assignment.proofs.tree.most.Given as goal

abbrev pub invariant-loop-room : goal.invariant-loop-room
invariant-loop-room l = record {
  bound : (j : ℕ) → j < l.room → entry l.keys l.member j ≤ℤ l.most;
  top : l.most ≤ℤ pos MOST_KEY;
}
