-- A case with what the search keeps beside it.
use Rattle.std.specs.Prelude.{◌≡◌, ◌≤◌, All, IfSome}
use Rattle.bid_rules.specs.declared.goods.GoodsCase.{GoodsCase}
use Rattle.bid_rules.specs.declared.limits.TheConstants.{WHOLE_POINTS}
use Rattle.bid_rules.specs.Goods.{IsAllocation, IsValidGoodsCase}
use Rattle.estate_bounds.specs.declared.logs.Logs.{Logs}
use Rattle.estate_bounds.specs.Prices.{AreLogs, IsPriced}
use Rattle.estate_bounds.specs.Sums.{IsWeighted}
use Rattle.estate_bounds.specs.Units.{IsUnit, unit_pair}
use Rattle.nash_bounds.specs.declared.lanes.LaneTable.{LaneTable}
use Rattle.nash_bounds.specs.Lanes.{IsLaneTable}
use Rattle.prefix_trees.specs.declared.alike.AlikePlayers.{AlikePlayers}
use Rattle.prefix_trees.specs.Ranks.{IsAlikeTable}
use Rattle.estate_search.specs.declared.above.Above.{Above}
use Rattle.estate_search.specs.declared.answers.Answer.{Answer}

-- an answer with its utilities, and its welfare in units
pub record IsKnownAnswer (case : GoodsCase) (answer : Answer) : Type 0 where
  pub whole : IsAllocation case answer.owners.items
  pub small : All (λ share. share ≤ WHOLE_POINTS) answer.shares.items
  pub unit : IsUnit case answer.units.unit
  pub goal : answer.units.goal ≡ unit_pair case answer.units.unit answer.owners.items

-- a valid case with its tables and the logarithms of points, and the best division found so far
pub record IsEstate (case : GoodsCase) (table : LaneTable) (alike : AlikePlayers) (logs : Logs) (answer : Answer) : Type 0 where
  pub valid : IsValidGoodsCase case
  pub tabled : IsLaneTable case table
  pub ranked : IsAlikeTable case alike
  pub logged : AreLogs logs
  pub known : IsKnownAnswer case answer

-- weights and prices of the case, as far as there are any
pub record IsAbove (case : GoodsCase) (above : Above) : Type 0 where
  pub weighted : IfSome above.weights (IsWeighted case)
  pub priced : IfSome above.prices (IsPriced case)
