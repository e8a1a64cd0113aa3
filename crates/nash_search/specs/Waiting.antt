-- What a walk has still to visit.
--
-- A walk goes down and up the prefixes of a task. Its path has the owners of the prefix that it visited last. For each owner on the path, and for the
-- next good, it keeps a level: the owners of that good whose turn has not come, the next one last. Say that the path is 2, 1:
--
--     good      first     second    third
--     path      2         1
--     level     3         nobody    3, 1
--
-- The third good may still go to 1, then to 3. After that the walk goes back up: nobody else waits for the second good, and 3 waits for the first. So
-- it has three prefixes to come, in this order, which is the rising order of lists:
--
--     2, 1, 1     2, 1, 3     3
use Rattle.std.specs.Prelude.{◌≡◌, ℕ, ◌-◌, ◌+◌, ◌<◌, ◌⊎◌, List, [], ◌∷◌, ◌++◌, length, map, fold, reverse, take, slice_index_or, All, Option, ◌&&◌, true}
use Rattle.std.specs.List.{sum_by}
use Rattle.bid_rules.specs.declared.goods.GoodsCase.{GoodsCase}
use Rattle.bid_rules.specs.declared.pair.Pair.{Pair}
use Rattle.bid_rules.specs.Goods.{AreOwners}
use Rattle.nash_bounds.specs.Goals.{IsGoal, is_reached}
use Rattle.nash_bounds.specs.Lanes.{IsFork, IsLaneTable}
use Rattle.bid_rules.specs.Pairs.{is_at_most, is_above}
use Rattle.nash_bounds.specs.Counted.{is_counted, count, best}
use Rattle.nash_search.specs.Best.{list_of, IsKept}
use Rattle.nash_search.specs.declared.levels.Level.{Level}
use Rattle.nash_search.specs.declared.rules.Rules.{Rules}
use Rattle.nash_search.specs.declared.walk.Walk.{Walk}

-- the owners who wait at a level, the next one last
abbrev pub owners_of : Level → List ℕ
owners_of level = level.owners.items

-- the prefixes to come, where the levels belong to the goods after the owners `above`: first those that go on from the end of the path, and last those
-- that leave it at its first owner
abbrev pub waiting_prefixes : List ℕ → List ℕ → List (List ℕ) → List (List ℕ)
waiting_prefixes above path [] = []
waiting_prefixes above [] (level ∷ levels) = map (λ owner. above ++ owner ∷ []) (reverse level)
waiting_prefixes above (owner ∷ path) (level ∷ levels) = waiting_prefixes (above ++ owner ∷ []) path levels ++ map (λ owner. above ++ owner ∷ []) (reverse level)

-- the prefixes that a walk has still to visit, as in the picture
abbrev pub to_come : Walk → List (List ℕ)
to_come walk = waiting_prefixes [] walk.path.items (map owners_of walk.levels.items)

-- how many prefixes that begin with one of these are counted
abbrev pub count_all : GoodsCase → Pair → Option Pair → List (List ℕ) → ℕ
count_all case floor above prefixes = sum_by (λ owners. count case floor above (case.facts.goods - length owners) owners) prefixes

-- the best of an earlier best and of the counted allocations that begin with one of these
abbrev pub best_all : GoodsCase → Pair → Option Pair → List (List ℕ) → Option (List ℕ) → Option (List ℕ)
best_all case floor above prefixes old = fold (λ kept owners. best case floor above (case.facts.goods - length owners) owners kept) old prefixes

-- a pair reaches the walk's goal exactly when it is at least the floor and greater than the pair above
pub record AreRules (rules : Rules) : Type 0 where
  pub goal : IsGoal rules.goal
  pub same : (pair : Pair) → (is_at_most rules.floor pair && is_above rules.above pair) ≡ is_reached rules.goal.pair rules.beyond pair

-- if an owner waits at the level, the level keeps what each player has and may have without the next good
abbrev pub HasFork : GoodsCase → List ℕ → Level → Type 0
HasFork case owners level = 0 < length level.owners.items → IsFork case owners level.lanes

-- each level of the path keeps what each player has and may have after the owners before it
abbrev pub HaveForks : GoodsCase → List ℕ → List Level → Type 0
HaveForks case path levels = (k : ℕ) (other : Level) → k < length levels → HasFork case (take k path) (slice_index_or levels k other)

-- a walk over owners of the first few goods, in which each prefix that waits is a counted one
pub record IsWalk (case : GoodsCase) (walk : Walk) : Type 0 where
  pub table : IsLaneTable case walk.table
  pub forks : HaveForks case walk.path.items walk.levels.items
  pub short : length walk.path.items < case.facts.goods
  pub owned : AreOwners case walk.path.items
  pub levelled : (walk.levels.items ≡ []) ⊎ (length walk.levels.items ≡ length walk.path.items + 1)
  pub players : All (λ level. AreOwners case (owners_of level)) walk.levels.items
  pub counted : All (λ owners. is_counted case walk.rules.floor walk.rules.above owners ≡ true) (to_come walk)
  pub kept : IsKept case walk.best
  pub rules : AreRules walk.rules

-- nothing waits, or an owner waits at the last level
abbrev pub IsReadyForNext : Walk → Type 0
IsReadyForNext walk = (walk.levels.items ≡ []) ⊎ ((front : List Level) × (last : Level) × (walk.levels.items ≡ front ++ last ∷ []) × (0 < length last.owners.items))

-- the walk goes on: what was counted and what is still to come is the same together
pub record WalksOn (case : GoodsCase) (old new : Walk) : Type 0 where
  pub rules : new.rules ≡ old.rules
  pub nodes : old.nodes + count_all case old.rules.floor old.rules.above (to_come old) ≡ new.nodes + count_all case old.rules.floor old.rules.above (to_come new)
  pub best : best_all case old.rules.floor old.rules.above (to_come old) (list_of old.best) ≡ best_all case old.rules.floor old.rules.above (to_come new) (list_of new.best)
