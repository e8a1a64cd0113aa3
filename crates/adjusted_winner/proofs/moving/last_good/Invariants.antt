use Rattle.std.proofs.Common.{◌-◌, ◌*◌, ◌≤◌}
use Rattle.bid_rules.specs.declared.limits.TheConstants.{MOST_GOODS, WHOLE_POINTS}
use Rattle.adjusted_winner.specs.Moves.{MovedUpTo}
use Rattle.adjusted_winner.proofs.moving.last_good.Given as goal

abbrev pub invariant-goods : goal.invariant-goods
invariant-goods l = record {
  now : MovedUpTo l.case l.player l.last l.rich l.poor;
  small : l.rich ≤ MOST_GOODS * WHOLE_POINTS;
}

abbrev pub decreases-goods : goal.decreases-goods
decreases-goods l = l.rich - l.poor
