-- No more bytes were written than were given.
use Rattle.std.proofs.Common.{◌≤◌, length}
use Rattle.adapters.proofs.held.HeldFile.write_front.Given as goal

abbrev pub invariant-loop : goal.invariant-loop
invariant-loop l = l.done ≤ length l.bytes
