-- No more bytes were read than the buffer holds.
use Rattle.std.proofs.Common.{◌≤◌, length}
use Rattle.adapters.proofs.held.HeldFile.read_full.Given as goal

abbrev pub invariant-loop : goal.invariant-loop
invariant-loop l = l.done ≤ length l.into
