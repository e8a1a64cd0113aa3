-- One more owner of a prefix.
use Rattle.std.specs.Prelude.{◌≡◌, ℕ, ◌≤◌, length, ◌<◌, slice_index}
use Rattle.bid_rules.specs.declared.goods.GoodsCase.{GoodsCase}
use Rattle.bid_rules.specs.Goods.{IsValidGoodsCase, player_count, order_of}
use Rattle.nash_bounds.specs.declared.prefix.Prefix.{Prefix}
use Rattle.nash_bounds.specs.Prefixes.{IsPrefix}

-- owners of the first few goods, the next good in search order, and a player who is to get it
pub record IsNext (case : GoodsCase) (prefix : Prefix) (good owner : ℕ) : Type 0 where
  pub valid : IsValidGoodsCase case
  pub is_prefix : IsPrefix case prefix
  pub shorter : length prefix.owners.items < case.facts.goods
  pub is_good : good ≡ slice_index (order_of case) (length prefix.owners.items)
  pub good_low : 1 ≤ good
  pub good_high : good ≤ case.facts.goods
  pub owner_low : 1 ≤ owner
  pub owner_high : owner ≤ player_count case
