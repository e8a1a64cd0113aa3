use Rattle.std.proofs.Common.{◌≡◌, ◌+◌, ◌^◌, ◌≤◌, ℕ, List, ◌∷◌, All, length}
use Rattle.bid_rules.specs.Goods.{points}
use Rattle.bid_rules.specs.declared.goods.GoodsCase.{GoodsCase}
use Rattle.estate_bounds.specs.Prices.{IsListOf, most_points}
use Rattle.estate_bounds.specs.declared.limits.TheConstants.{FREE_ROOM}
use Rattle.estate_bounds.proofs.gains.with_good.Given as goal

abbrev pub invariant-loop-count : goal.invariant-loop-count
invariant-loop-count l = record {
  long : length l.list.items ≡ l.count;
  items : (case : GoodsCase) (player good : ℕ) (goods : List ℕ) → l.fn.worth ≡ points case player good → IsListOf (λ count. most_points case player count goods) FREE_ROOM l.mosts
      → IsListOf (λ count. most_points case player count (good ∷ goods)) l.count l.list.items;
  small : (most : ℕ) → All (λ n. n ≤ most) l.mosts → All (λ n. n ≤ most + 2 ^ 16) l.list.items;
}
