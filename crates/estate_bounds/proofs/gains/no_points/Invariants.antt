use Rattle.std.proofs.Common.{◌≡◌, ◌≤◌, ℕ, [], All, length}
use Rattle.bid_rules.specs.declared.goods.GoodsCase.{GoodsCase}
use Rattle.estate_bounds.specs.Prices.{IsListOf, most_points}
use Rattle.estate_bounds.proofs.gains.no_points.Given as goal

abbrev pub invariant-loop-count : goal.invariant-loop-count
invariant-loop-count l = record {
  items : (case : GoodsCase) (player : ℕ) → IsListOf (λ count. most_points case player count []) l._count l.list.items;
  small : All (λ most. most ≤ 0) l.list.items;
  long : length l.list.items ≡ l._count;
}
