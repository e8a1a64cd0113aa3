use Rattle.std.proofs.Common.{◌≡◌, ℕ, ◌<◌, length}
use Rattle.room_assignment.specs.Matrix.{entry}
use Rattle.room_assignment.specs.Tree.{numbers}
use Rattle.room_assignment.specs.Tree.{IsRight}
use Rattle.room_assignment.proofs.rooms.rights.Given as goal

abbrev pub invariant-loop-room : goal.invariant-loop-room
invariant-loop-room l = record {
  count : length l.rights.items ≡ l.room;
  each : (j : ℕ) → j < l.room → IsRight (length l.keys.items) (entry l.keys) l.rooms l.left j (numbers l.rights.items j);
}
