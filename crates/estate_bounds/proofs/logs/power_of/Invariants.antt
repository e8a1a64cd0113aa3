use Rattle.std.proofs.Common.{◌≡◌}
use Rattle.estate_bounds.specs.Logs.{power_after}
use Rattle.estate_bounds.proofs.logs.power_of.Given as goal

abbrev pub invariant-loop-squaring : goal.invariant-loop-squaring
invariant-loop-squaring l = l.power ≡ power_after l.fn.rounding l.fn.number l._squaring
