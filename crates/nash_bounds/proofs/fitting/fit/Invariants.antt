use Rattle.std.proofs.Common.{◌≤◌}
use Rattle.nash_bounds.proofs.fitting.fit.Given as goal
use Rattle.bid_rules.specs.declared.limits.TheConstants.{WHOLE_POINTS}

abbrev pub invariant-down : goal.invariant-down
invariant-down l = record {
  most : l.level ≤ WHOLE_POINTS;
}

abbrev pub decreases-down : goal.decreases-down
decreases-down l = l.level
