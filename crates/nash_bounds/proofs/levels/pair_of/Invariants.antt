use Rattle.std.proofs.Common.{◌≡◌, ◌+◌, ◌*◌, ◌^◌, ◌≤◌, drop}
use Rattle.bid_rules.specs.Pairs.{positives, product}
use Rattle.nash_bounds.specs.Levels.{with_extra_points}
use Rattle.nash_bounds.proofs.levels.pair_of.Given as goal
use Rattle.bid_rules.specs.declared.limits.TheConstants.{WHOLE_POINTS}

abbrev pub invariant-loop-i : goal.invariant-loop-i
invariant-loop-i l = record {
  few : l.count ≤ l.i;
  small : l.product ≤ WHOLE_POINTS ^ l.i;
  count : l.count + positives (with_extra_points l.left (drop l.i l.entries) (drop l.i l.above)) ≡ positives (with_extra_points l.extra l.entries l.above);
  product : l.product * product (with_extra_points l.left (drop l.i l.entries) (drop l.i l.above)) ≡ product (with_extra_points l.extra l.entries l.above);
}
