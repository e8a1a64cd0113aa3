-- The best of some allocations, as the search finds it.
use Rattle.std.specs.Prelude.{◌≡◌, ℕ, List, Option, Some, None, IfSome}
use Rattle.bid_rules.specs.declared.goods.GoodsCase.{GoodsCase}
use Rattle.bid_rules.specs.Goods.{pair_of}
use Rattle.nash_bounds.specs.Allocations.{IsBestOf}
use Rattle.nash_search.specs.declared.found.Found.{Found}

-- the owners of the allocation that was found, if one was
abbrev pub list_of : Option Found → Option (List ℕ)
list_of None = None
list_of (Some found) = Some found.list.items

-- the pair that is kept is the Nash welfare of the owners beside it
abbrev pub IsKept : GoodsCase → Option Found → Type 0
IsKept case found = IfSome found (λ f. f.pair ≡ pair_of case f.list.items)

-- the best of these allocations with its pair, the earliest list among equals, or none if there are no allocations
pub record IsFoundBest (case : GoodsCase) (allocations : List (List ℕ)) (found : Option Found) : Type 0 where
  pub best : IsBestOf case allocations (list_of found)
  pub pair : IsKept case found
