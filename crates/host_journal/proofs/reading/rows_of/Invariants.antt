-- The rows so far and those that are still read are all of them.
use Rattle.std.proofs.Common.{◌≡◌, ◌-◌, ◌+◌, length}
use Rattle.host_journal.specs.Reading.{many_at, row_at}
use Rattle.host_journal.proofs.Loop.{with_front}
use Rattle.host_journal.proofs.reading.rows_of.Given as goal

abbrev pub invariant-loop : goal.invariant-loop
invariant-loop l = (with_front l.rows.items (many_at (row_at l.places) (l.places + 1 - l.counter) l.rest) ≡ many_at (row_at l.places) (l.places + 1) l.bytes) × (length l.rows.items ≡ l.counter)
