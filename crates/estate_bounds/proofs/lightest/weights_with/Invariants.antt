use Rattle.std.proofs.Common.{◌≡◌, cond, length, map, nat_lt}
use Rattle.std.specs.List.{range_with_len}
use Rattle.bid_rules.specs.Goods.{order_of, utility}
use Rattle.estate_bounds.specs.Weighted.{weight}
use Rattle.estate_bounds.proofs.lightest.weights_with.Given as goal

abbrev pub invariant-loop-k : goal.invariant-loop-k
invariant-loop-k l = record {
  long : length l.list.items ≡ l.k;
  items : l.list.items ≡ map (λ player. cond (nat_lt 0 (utility l.case player (order_of l.case) l.owners)) l.number (weight l.weights player)) (range_with_len 1 l.k);
}
