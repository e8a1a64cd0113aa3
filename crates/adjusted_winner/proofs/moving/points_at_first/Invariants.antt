use Rattle.std.proofs.Common.{◌≡◌, ◌*◌, ◌≤◌, ◌==◌, cond, sum_by}
use Rattle.std.specs.List.{range_with_len}
use Rattle.bid_rules.specs.declared.limits.TheConstants.{WHOLE_POINTS}
use Rattle.bid_rules.specs.Goods.{points}
use Rattle.winner_definition.specs.Winners.{first_owner}
use Rattle.adjusted_winner.proofs.moving.points_at_first.Given as goal

abbrev pub invariant-loop-k : goal.invariant-loop-k
invariant-loop-k l = record {
  value : l.sum ≡ sum_by (λ good. cond (first_owner l.case good == l.player) (points l.case l.player good) 0) (range_with_len 1 l.k);
  small : l.sum ≤ l.k * WHOLE_POINTS;
}
