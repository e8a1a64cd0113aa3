-- How many players can have points at all: several players want so few goods together that some of them get nothing (Hall 1935).
use Rattle.std.specs.Prelude.{ℕ, ◌+◌, ◌-◌, ◌≤◌, List, Bool, nat_lt, length, count_by}
use Rattle.std.specs.List.{list_any}
use Rattle.std.specs.List.Sorted.{IsStrictlyIncreasing}
use Rattle.bid_rules.specs.declared.goods.GoodsCase.{GoodsCase}
use Rattle.bid_rules.specs.Goods.{AreOwners, IsAllocation, order_of, player_count, points, utilities}
use Rattle.bid_rules.specs.Pairs.{positives}

-- no allocation gives points to more players than this
abbrev pub IsCountLimit : GoodsCase → ℕ → Type 0
IsCountLimit case count = (owners : List ℕ) → IsAllocation case owners → positives (utilities case owners) ≤ count

-- a test of whether any of the players gives the good points
abbrev pub is_wanted : GoodsCase → List ℕ → ℕ → Bool
is_wanted case players good = list_any (λ player. nat_lt 0 (points case player good)) players

-- these players, each named once, want so few goods that they and all other players can't be more than this with points: each of them needs a good that
-- one of them wants
pub record IsShort (case : GoodsCase) (players : List ℕ) (count : ℕ) : Type 0 where
  pub rising : IsStrictlyIncreasing players
  pub named : AreOwners case players
  pub few : player_count case - length players + count_by (is_wanted case players) (order_of case) ≤ count
