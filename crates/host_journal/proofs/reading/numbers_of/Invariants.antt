-- The numbers so far and those that are still read are all of them.
use Rattle.std.proofs.Common.{◌≡◌, ◌-◌, length}
use Rattle.std.specs.Int.{w32}
use Rattle.host_journal.specs.Reading.{many_at, number_at}
use Rattle.host_journal.proofs.Loop.{with_front}
use Rattle.host_journal.proofs.reading.numbers_of.Given as goal

abbrev pub invariant-loop : goal.invariant-loop
invariant-loop g l = (with_front l.numbers.items (many_at (number_at w32) (l.count - l.counter) l.rest) ≡ many_at (number_at w32) l.count l.bytes) × (length l.numbers.items ≡ l.counter)
