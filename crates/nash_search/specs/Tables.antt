-- The search's two tables of a case, one for prefixes and one for walks, made once for a whole search.
use Rattle.bid_rules.specs.declared.goods.GoodsCase.{GoodsCase}
use Rattle.nash_bounds.specs.Lanes.{IsLaneTable}
use Rattle.nash_bounds.specs.Tables.{IsTable}
use Rattle.nash_search.specs.declared.tables.Tables.{Tables}

-- both tables, of points and of lanes, are those of the case
pub record AreTables (case : GoodsCase) (tables : Tables) : Type 0 where
  pub points : IsTable case tables.points
  pub lanes : IsLaneTable case tables.lanes
