-- Allocations that dominate a given one, and how many prefixes of allocations leave room for one.
use Rattle.std.specs.Prelude.{◌≡◌, ℕ, ◌-◌, ◌<◌, ◌≤◌, ◌∷◌, [], ◌&&◌, Bool, List, sum, flat_map, count_by, nat_le, nat_lt, Option, Some, None}
use Rattle.std.specs.List.{list_all, range_with_len}
use Rattle.std.specs.Cmp.Lexicographic.{slice_cmp}
use Rattle.std.specs.Ordering.{nat_cmp}
use Rattle.std.specs.declared.cmp.Ordering.TheVariants.{Less}
use Rattle.arrayvec.specs.declared.array_vec.ArrayVec.{ArrayVec}
use Rattle.bid_rules.specs.declared.goods.GoodsCase.{GoodsCase}
use Rattle.bid_rules.specs.declared.limits.TheConstants.{ITEM_ROOM}
use Rattle.bid_rules.specs.Goods.{Dominates, IsAllocation, owners_by_good, player_count, utilities}
use Rattle.nash_bounds.specs.Lanes.{has, may_have}
use Rattle.nash_bounds.specs.OwnerLists.{below}
use Rattle.nash_bounds.specs.Prefixes.{top_of}

-- the prefix leaves room for an allocation that dominates this one: each player may still get as many points as here, and all players together may get more
pub record LeavesRoom (case : GoodsCase) (owners prefix : List ℕ) : Type 0 where
  pub each : (player : ℕ) → 1 ≤ player → player ≤ player_count case → has case owners player ≤ may_have case prefix player
  pub more : sum (utilities case owners) < top_of case prefix

-- whether the prefix leaves room for an allocation that dominates this one
abbrev pub leaves_room : GoodsCase → List ℕ → List ℕ → Bool
leaves_room case owners prefix =
    list_all (λ player. nat_le (has case owners player) (may_have case prefix player)) (range_with_len 1 (player_count case))
    && nat_lt (sum (utilities case owners)) (top_of case prefix)

-- all lists of owners of the first few goods in the order of the search, from one good to all goods
abbrev pub prefixes : GoodsCase → List (List ℕ)
prefixes case = flat_map (λ owner. below (player_count case) (case.facts.goods - 1) (owner ∷ [])) (range_with_len 1 (player_count case))

-- how many prefixes leave room for an allocation that dominates this one
abbrev pub open_count : GoodsCase → List ℕ → ℕ
open_count case owners = count_by (leaves_room case owners) (prefixes case)

-- the first, in the order of the search, of all allocations that dominate this one
pub record IsLeastDominating (case : GoodsCase) (owners others : List ℕ) : Type 0 where
  pub allocation : IsAllocation case others
  pub dominates : Dominates case others owners
  pub least : (list : List ℕ) → IsAllocation case list → Dominates case list owners → slice_cmp nat_cmp list others ≡ Less → ⊥

-- the owner of each good, in the order of the goods and in fixed memory
abbrev pub OwnersByGood : Type 0
OwnersByGood = ArrayVec ℕ ITEM_ROOM (Unit {0})

-- the first allocation that dominates these owners, in the order of the goods; or none if no allocation does. These owners are in the order of the search
abbrev pub IsBetterDivision : GoodsCase → List ℕ → Option OwnersByGood → Type 0
IsBetterDivision case owners None = (others : List ℕ) → IsAllocation case others → Dominates case others owners → ⊥
IsBetterDivision case owners (Some better) = (others : List ℕ) × IsLeastDominating case owners others × (better.items ≡ owners_by_good case others)
