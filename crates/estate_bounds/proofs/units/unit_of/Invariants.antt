use Rattle.std.proofs.Common.{◌<◌}
use Rattle.bid_rules.specs.declared.limits.TheConstants.{WHOLE_POINTS}
use Rattle.estate_bounds.proofs.Divisors.{DividesRows}
use Rattle.estate_bounds.proofs.units.unit_of.Given as goal

abbrev pub invariant-loop-k : goal.invariant-loop-k
invariant-loop-k l = record {
  some : 0 < l.unit;
  divides : DividesRows WHOLE_POINTS l.case.values.items l.k l.unit;
}
