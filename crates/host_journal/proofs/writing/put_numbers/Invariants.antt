-- The numbers so far come after what was there.
use Rattle.std.proofs.Common.{◌≡◌, ◌+◌, ◌*◌, ◌++◌, length, take}
use Rattle.host_journal.specs.Spelling.{numbers_bytes}
use Rattle.host_journal.proofs.writing.put_numbers.Given as goal

abbrev pub invariant-loop-number : goal.invariant-loop-number
invariant-loop-number l = record {
  spelled : l.body.items ≡ l.initial.body.items ++ numbers_bytes (take l.number-index l.numbers);
  size : length l.body.items ≡ length l.initial.body.items + 4 * l.number-index;
}
