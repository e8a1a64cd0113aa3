use Rattle.std.proofs.Common.{◌≡◌, ◌+◌, ◌-◌, ◌++◌, drop, length, map}
use Rattle.bid_rules.specs.Goods.{order_of}
use Rattle.nash_bounds.specs.Prefixes.{free_goods}
use Rattle.estate_bounds.specs.Weighted.{most_weighted}
use Rattle.estate_bounds.proofs.tops.with_free_goods.Given as goal

abbrev pub invariant-loop-place : goal.invariant-loop-place
invariant-loop-place l = record {
  long : length l.longer.items ≡ length l.initial.longer.items + (l.place - length l.owners);
  items : l.longer.items ++ map (most_weighted l.case l.weights) (drop l.place (order_of l.case)) ≡ l.initial.longer.items ++ map (most_weighted l.case l.weights) (free_goods l.case l.owners);
}
