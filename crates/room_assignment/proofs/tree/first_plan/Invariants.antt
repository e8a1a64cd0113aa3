use Rattle.std.proofs.Common.{◌≡◌, ℕ, pos, ◌<◌, length, replicate}
use Rattle.std.specs.List.{range_with_len}
use Rattle.room_assignment.specs.Tree.{numbers, IsMost}
use Rattle.room_assignment.proofs.tree.first_plan.Given as goal

abbrev pub invariant-loop-k : goal.invariant-loop-k
invariant-loop-k l = record {
  rooms : l.rooms.items ≡ range_with_len 0 l.k;
  lefts : length l.left.items ≡ l.k;
  rights : l.right.items ≡ replicate l.k (pos 0);
  left : (i : ℕ) → i < l.k → IsMost l.keys i (numbers l.left.items i);
}
