-- The rows so far come after what was there.
use Rattle.std.proofs.Common.{◌≡◌, ◌≤◌, ◌+◌, ◌*◌, ◌++◌, length, take}
use Rattle.std.specs.List.{flat_map}
use Rattle.host_journal.specs.Spelling.{numbers_bytes}
use Rattle.host_journal.proofs.writing.put_rows.Given as goal

abbrev pub invariant-loop-row : goal.invariant-loop-row
invariant-loop-row l = record {
  spelled : l.body.items ≡ l.initial.body.items ++ numbers_bytes (flat_map (λ row. row.items) (take l.row-index l.rows));
  size : length l.body.items ≤ length l.initial.body.items + 48 * l.row-index;
}
