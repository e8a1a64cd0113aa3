use Rattle.std.proofs.Common.{◌+◌, ◌-◌, ◌<◌, ◌≤◌, length}
use Rattle.room_assignment.specs.Matrix.{entry}
use Rattle.room_assignment.specs.Rounds.{AreLongestWithin}
use Rattle.room_assignment.proofs.walks.longest_walks.Given as goal

abbrev pub invariant-loop-limit : goal.invariant-loop-limit
invariant-loop-limit l = record {
  walks : AreLongestWithin (l.limit - 1) (length l.matrix.items) (entry l.matrix) l.walks.weights.items l.walks.ranks.items;
  few : l.limit ≤ length l.matrix.items + 1;
  last : 0 < length l.matrix.items → l.limit ≤ length l.matrix.items;
}
