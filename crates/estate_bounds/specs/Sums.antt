-- Weights with the sums that are kept beside them.
use Rattle.std.specs.Prelude.{◌≡◌, ℕ, ◌+◌, ◌-◌, ◌*◌, ◌≤◌, List, All, drop, map}
use Rattle.std.specs.List.{range_with_len, sum_by}
use Rattle.bid_rules.specs.declared.goods.GoodsCase.{GoodsCase}
use Rattle.bid_rules.specs.Goods.{order_of}
use Rattle.estate_bounds.specs.declared.weights.Weights.{Weights}
use Rattle.bid_rules.specs.declared.limits.TheConstants.{ITEM_ROOM}
use Rattle.estate_bounds.specs.declared.limits.TheConstants.{MOST_TERM}
use Rattle.estate_bounds.specs.Weighted.{AreWeights, most_weighted}

-- the most that so many free goods, the last in search order, can add to the weighted sum
abbrev pub free_top : GoodsCase → List ℕ → ℕ → ℕ
free_top case weights free = sum_by (most_weighted case weights) (drop (case.facts.goods - free) (order_of case))

-- a weight for each player, and for each number of free goods the most that these can add
pub record IsWeighted (case : GoodsCase) (weights : Weights) : Type 0 where
  pub are : AreWeights case weights.each.items
  pub is_tops : weights.tops.items ≡ map (free_top case weights.each.items) (range_with_len 0 (case.facts.goods + 1))
  pub small : All (λ top. top ≤ MOST_TERM * ITEM_ROOM) weights.tops.items
