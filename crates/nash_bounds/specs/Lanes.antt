-- Prefixes in lanes. There is a lane for each player, by number; a lane without a player holds 0.
use Rattle.std.specs.Prelude.{◌≡◌, ℕ, ◌+◌, ◌-◌, ◌<◌, ◌≤◌, List, length, map, slice_index, slice_index_or}
use Rattle.std.specs.List.{range_with_len, sum_by}
use Rattle.bid_rules.specs.declared.goods.GoodsCase.{GoodsCase}
use Rattle.bid_rules.specs.Goods.{IsValidGoodsCase, player_count, points, greatest_points, order_of, utility}
use Rattle.nash_bounds.specs.declared.lanes.LaneRow.{LaneRow}
use Rattle.nash_bounds.specs.declared.lanes.LaneTable.{LaneTable}
use Rattle.nash_bounds.specs.declared.lanes.Lanes.{Lanes}
use Rattle.nash_bounds.specs.Prefixes.{free_goods, top_of}
use Rattle.bid_rules.specs.declared.limits.TheConstants.{MEMBER_ROOM}
use Rattle.nash_bounds.specs.declared.limits.TheConstants.{LANES}

-- one number for each lane, where lane k is that of player k
abbrev pub by_lane : (ℕ → ℕ) → List ℕ
by_lane f = map f (range_with_len 1 LANES)

-- the points that each lane's player gives the good, and the greatest of these
pub record IsLaneRow (case : GoodsCase) (good : ℕ) (row : LaneRow) : Type 0 where
  pub is_points : row.points ≡ by_lane (λ player. points case player good)
  pub is_greatest : row.greatest ≡ greatest_points case good

-- a row for each good in search order, with no more players than lanes
pub record IsLaneTable (case : GoodsCase) (table : LaneTable) : Type 0 where
  pub few : player_count case ≤ MEMBER_ROOM
  pub long : length table.rows.items ≡ case.facts.goods
  pub each : (place : ℕ) (other : LaneRow) → place < case.facts.goods → IsLaneRow case (slice_index (order_of case) place) (slice_index_or table.rows.items place other)

-- what a player has under these owners
abbrev pub has : GoodsCase → List ℕ → ℕ → ℕ
has case owners player = utility case player (order_of case) owners

-- what a player would have with all free goods too
abbrev pub may_have : GoodsCase → List ℕ → ℕ → ℕ
may_have case owners player = utility case player (order_of case) owners + sum_by (points case player) (free_goods case owners)

-- for each lane, what the player has under these owners, and what the player would have with all free goods too
pub record IsLanes (case : GoodsCase) (owners : List ℕ) (lanes : Lanes) : Type 0 where
  pub is_low : lanes.low ≡ by_lane (has case owners)
  pub is_high : lanes.high ≡ by_lane (may_have case owners)
  pub is_top : lanes.top ≡ top_of case owners

-- the first good in search order that has no owner yet
abbrev pub next_good : GoodsCase → List ℕ → ℕ
next_good case owners = slice_index (order_of case) (length owners)

-- for each lane, what the player has under these owners, and what the player would have with all free goods except the next
pub record IsFork (case : GoodsCase) (owners : List ℕ) (lanes : Lanes) : Type 0 where
  pub is_low : lanes.low ≡ by_lane (has case owners)
  pub is_high : lanes.high ≡ by_lane (λ player. may_have case owners player - points case player (next_good case owners))
  pub is_top : lanes.top ≡ top_of case owners - greatest_points case (next_good case owners)

-- a valid case with owners of the first few goods, and at least one good still free
pub record HasFreeGood (case : GoodsCase) (owners : List ℕ) : Type 0 where
  pub valid : IsValidGoodsCase case
  pub short : length owners < case.facts.goods
