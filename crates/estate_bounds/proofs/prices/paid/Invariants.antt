use Rattle.std.proofs.Common.{◌≡◌, ◌*◌, ◌≤◌}
use Rattle.std.specs.List.{range_with_len, sum_by}
use Rattle.bid_rules.specs.Goods.{order_of, utility}
use Rattle.estate_bounds.specs.declared.limits.TheConstants.{MOST_PAYMENT}
use Rattle.estate_bounds.specs.Weighted.{weight}
use Rattle.estate_bounds.proofs.prices.paid.Given as goal

abbrev pub invariant-loop-k : goal.invariant-loop-k
invariant-loop-k l = record {
  value : l.sum ≡ sum_by (λ player. weight l.rates player * utility l.case player (order_of l.case) l.owners) (range_with_len 1 l.k);
  small : l.sum ≤ MOST_PAYMENT * l.k;
}
