-- The names so far and those that are still read are all of them.
use Rattle.std.proofs.Common.{◌≡◌, ◌-◌, length, map}
use Rattle.bid_rules.specs.declared.limits.TheConstants.{LONGEST_NAME}
use Rattle.sealed_core.specs.Host.{text}
use Rattle.host_journal.specs.Reading.{many_at, text_at}
use Rattle.host_journal.proofs.Loop.{with_front}
use Rattle.host_journal.proofs.reading.many_names.Given as goal

abbrev pub invariant-loop : goal.invariant-loop
invariant-loop g l = (with_front (map text l.names.items) (many_at (text_at LONGEST_NAME) (l.count - l.counter) l.rest) ≡ many_at (text_at LONGEST_NAME) l.count l.bytes) × (length l.names.items ≡ l.counter)
