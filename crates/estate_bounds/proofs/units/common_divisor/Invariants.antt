use Rattle.std.proofs.Common.{◌<◌}
use Rattle.estate_bounds.proofs.Divisors.{DividesFirst}
use Rattle.estate_bounds.proofs.units.common_divisor.Given as goal

abbrev pub invariant-loop-number : goal.invariant-loop-number
invariant-loop-number l = record {
  some : 0 < l.divisor;
  divides : DividesFirst l.first l.numbers l.number-index l.divisor;
}
