-- What the leaves of the tree of an estate are judged by.
use Rattle.std.specs.Prelude.{◌≡◌, ◌≤◌, All}
use Rattle.bid_rules.specs.declared.limits.TheConstants.{WHOLE_POINTS}
use Rattle.bid_rules.specs.Goods.{IsAllocation, IsValidGoodsCase, utilities}
use Rattle.estate_bounds.specs.Prices.{AreLogs}
use Rattle.estate_bounds.specs.Shown.{shares_of}
use Rattle.estate_bounds.specs.Units.{IsUnit, unit_pair}
use Rattle.estate_judge.specs.declared.ground.Ground.{Ground}
use Rattle.nash_bounds.specs.Lanes.{IsLaneTable}
use Rattle.prefix_trees.specs.Ranks.{IsAlikeTable}

-- a valid case with its table, an allocation of it as the answer, its positive utilities, its pair in units, the alike players, and the logarithms of points
pub record IsGround (ground : Ground) : Type 0 where
  pub valid : IsValidGoodsCase ground.case
  pub table : IsLaneTable ground.case ground.table
  pub allocation : IsAllocation ground.case ground.owners.items
  pub shares : ground.shares.items ≡ shares_of (utilities ground.case ground.owners.items)
  pub small : All (λ share. share ≤ WHOLE_POINTS) ground.shares.items
  pub unit : IsUnit ground.case ground.units.unit
  pub goal : ground.units.goal ≡ unit_pair ground.case ground.units.unit ground.owners.items
  pub alike : IsAlikeTable ground.case ground.alike
  pub logs : AreLogs ground.logs
