-- Prefixes that the search stands at.
use Rattle.bid_rules.specs.declared.goods.GoodsCase.{GoodsCase}
use Rattle.nash_bounds.specs.Lanes.{IsLanes}
use Rattle.prefix_trees.specs.Fronts.{IsFront}
use Rattle.estate_search.specs.declared.fronts.Front.{Front}

-- owners of the first few goods, and what the players have and may have under them
pub record IsLanedFront (case : GoodsCase) (front : Front) : Type 0 where
  pub owners : IsFront case front.owners.items
  pub lanes : IsLanes case front.owners.items front.lanes
