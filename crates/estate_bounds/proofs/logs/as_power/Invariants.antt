use Rattle.std.proofs.Common.{◌≡◌}
use Rattle.estate_bounds.specs.Logs.{as_power}
use Rattle.estate_bounds.proofs.logs.as_power.Given as goal

abbrev pub invariant-loop-bit : goal.invariant-loop-bit
invariant-loop-bit l = l.power ≡ as_power l.fn.rounding l.fn.number l._bit
