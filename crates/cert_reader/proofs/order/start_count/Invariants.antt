-- The starts among the riders so far are counted.
use Rattle.std.proofs.Common.{◌≡◌, length}
use Rattle.cert_reader.specs.Sets.{starts}
use Rattle.cert_reader.proofs.order.start_count.Given as goal

abbrev pub invariant-loop-bit : goal.invariant-loop-bit
invariant-loop-bit l = l.count ≡ length (starts l.bit l.set)
