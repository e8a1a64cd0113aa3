use Rattle.std.proofs.Common.{◌-◌, ◌*◌, ◌^◌, ◌≤◌, All, drop}
use Rattle.bid_rules.specs.Goods.{order_of}
use Rattle.estate_bounds.specs.Prices.{IsListOf, most_points}
use Rattle.estate_bounds.specs.declared.limits.TheConstants.{FREE_ROOM}
use Rattle.estate_bounds.proofs.gains.most_points.Given as goal

abbrev pub invariant-loop-free : goal.invariant-loop-free
invariant-loop-free l = record {
  items : IsListOf (λ count. most_points l.case l.player count (drop (l.case.facts.goods - l.free) (order_of l.case))) FREE_ROOM l.mosts.items;
  small : All (λ most. most ≤ 2 ^ 16 * l.free) l.mosts.items;
}
