use Rattle.std.proofs.Common.{◌-ℤ◌, slice_index}
use Rattle.room_assignment.specs.declared.limits.TheConstants.{MOST_STEP}
use Rattle.room_assignment.specs.Matrix.{entry}
use Rattle.room_assignment.specs.Entries.{IsRowOf}
use Rattle.room_assignment.proofs.keys.step_row.Given as goal

abbrev pub invariant-loop-to : goal.invariant-loop-to
invariant-loop-to l = IsRowOf l.to MOST_STEP (λ to. entry l.weights to (slice_index l.rooms l.from) -ℤ entry l.weights l.from (slice_index l.rooms l.from)) l.row.items
