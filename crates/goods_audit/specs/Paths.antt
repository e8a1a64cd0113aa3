-- What a search for the first dominating allocation has still to see.
use Rattle.std.specs.Prelude.{◌≡◌, ℕ, suc, zero, ◌+◌, ◌-◌, ◌<◌, ◌≤◌, ◌==◌, ◌&&◌, Bool, List, [], ◌∷◌, ◌++◌, length, flat_map, filter, count_by, Option, Some, None, Result, Ok, Err}
use Rattle.std.specs.List.{range_with_len}
use Rattle.bid_rules.specs.declared.goods.GoodsCase.{GoodsCase}
use Rattle.bid_rules.specs.Goods.{AreOwners, player_count}
use Rattle.nash_bounds.specs.Lanes.{IsLanes}
use Rattle.nash_bounds.specs.OwnerLists.{below}
use Rattle.nash_search.specs.declared.division.OverLimit.{OverLimit}
use Rattle.goods_audit.specs.Domination.{OwnersByGood, leaves_room, open_count, prefixes}
use Rattle.goods_audit.specs.declared.paths.Path.{Path}
use Rattle.goods_audit.specs.declared.walk.Walk.{Walk}

-- the lists after all that begin with the path, with k goods still to give: those with a later player in place of one of its owners
abbrev pub after : ℕ → List ℕ → ℕ → List ℕ → List (List ℕ)
after n above k [] = []
after n above zero (owner ∷ path) = []
after n above (suc k) (owner ∷ path) =
    after n (above ++ owner ∷ []) k path ++ flat_map (λ later. below n k (above ++ later ∷ [])) (range_with_len (owner + 1) (n - owner))

-- the prefixes after all that begin with this one
abbrev pub later_ones : GoodsCase → List ℕ → List (List ℕ)
later_ones case owners = after (player_count case) [] case.facts.goods owners

-- the prefix, those that begin with it, and those after them; there are none once the search is back at the empty prefix
abbrev pub to_come : GoodsCase → List ℕ → List (List ℕ)
to_come case [] = []
to_come case (owner ∷ owners) = below (player_count case) (case.facts.goods - length (owner ∷ owners)) (owner ∷ owners) ++ later_ones case (owner ∷ owners)

-- owners of the first few goods, and what each player has and may have with them
pub record IsPath (case : GoodsCase) (path : Path) : Type 0 where
  pub lanes : IsLanes case path.owners.items path.lanes
  pub short : length path.owners.items ≤ case.facts.goods
  pub owned : AreOwners case path.owners.items

-- whether the prefix is an allocation that dominates the owners: it leaves room for one and gives each good
abbrev pub is_found : GoodsCase → List ℕ → List ℕ → Bool
is_found case owners prefix = leaves_room case owners prefix && length prefix == case.facts.goods

-- the allocations that dominate the owners among some prefixes
abbrev pub found_in : GoodsCase → List ℕ → List (List ℕ) → List (List ℕ)
found_in case owners prefixes = filter (is_found case owners) prefixes

-- this is the first dominating allocation among all prefixes; or there is none before the prefixes still to come
abbrev pub IsFirst : GoodsCase → List ℕ → List (List ℕ) → List (List ℕ) → Option OwnersByGood → Type 0
IsFirst case owners all rest None = found_in case owners all ≡ found_in case owners rest
IsFirst case owners all rest (Some first) = (more : List (List ℕ)) × (found_in case owners all ≡ first.items ∷ more)

-- a step of the search loses nothing: together, what has been seen and what is still to come stay the same
pub record LosesNothing (case : GoodsCase) (owners : List ℕ) (old new : Walk) : Type 0 where
  pub count : old.openings + count_by (leaves_room case owners) (to_come case old.path.owners.items) ≡ new.openings + count_by (leaves_room case owners) (to_come case new.path.owners.items)
  pub first : (all : List (List ℕ)) → IsFirst case owners all (to_come case old.path.owners.items) old.first → IsFirst case owners all (to_come case new.path.owners.items) new.first

-- the search ends with the first dominating allocation, if there is one; or with the case's limit, if more prefixes leave room than the limit allows
abbrev pub IsSearched : GoodsCase → List ℕ → Result (Option OwnersByGood) OverLimit → Type 0
IsSearched case owners (Ok first) = (open_count case owners ≤ case.facts.limit) × IsFirst case owners (prefixes case) [] first
IsSearched case owners (Err over) = (case.facts.limit < open_count case owners) × (over.limit ≡ case.facts.limit)
