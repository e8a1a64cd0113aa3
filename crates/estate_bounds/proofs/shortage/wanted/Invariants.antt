use Rattle.std.proofs.Common.{◌≡◌, ◌+◌, ◌≤◌, drop}
use Rattle.std.specs.List.{count_by}
use Rattle.bid_rules.specs.Goods.{order_of}
use Rattle.estate_bounds.specs.Counts.{is_wanted}
use Rattle.estate_bounds.proofs.shortage.wanted.Given as goal

abbrev pub invariant-loop-place : goal.invariant-loop-place
invariant-loop-place l = record {
  small : l.count ≤ l.place;
  value : l.count + count_by (is_wanted l.case l.players) (drop l.place (order_of l.case)) ≡ count_by (is_wanted l.case l.players) (order_of l.case);
}
