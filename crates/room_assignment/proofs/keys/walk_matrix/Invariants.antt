use Rattle.std.proofs.Common.{◌≡◌, ◌-ℤ◌, ◌<◌, ℕ, [], length, slice_index, slice_index_or}
use Rattle.room_assignment.specs.declared.limits.TheConstants.{MOST_STEP}
use Rattle.room_assignment.specs.Matrix.{entry}
use Rattle.room_assignment.specs.Entries.{IsRowOf}
use Rattle.room_assignment.proofs.keys.walk_matrix.Given as goal

abbrev pub invariant-loop-from : goal.invariant-loop-from
invariant-loop-from l = record {
  rows_count : length l.steps.items ≡ l.from;
  rows : (i : ℕ) → i < l.from → IsRowOf (length l.weights.items) MOST_STEP (λ to. entry l.weights to (slice_index l.rooms i) -ℤ entry l.weights i (slice_index l.rooms i)) (slice_index_or l.steps.items i (record { items = [] })).items;
}
