-- A walk through one task that stops and goes on later: how many of the task's prefixes are counted, and how far the walk has come.
use Rattle.std.specs.Prelude.{◌≡◌, ℕ, ◌+◌, ◌-◌, ◌<◌, ◌≤◌, Option, None, Bool, true, false}
use Rattle.bid_rules.specs.declared.goods.GoodsCase.{GoodsCase}
use Rattle.bid_rules.specs.declared.pair.Pair.{Pair}
use Rattle.nash_bounds.specs.Tasks.{depth_of, task_list}
use Rattle.nash_bounds.specs.Counted.{best, count_task, counted_leaves}
use Rattle.nash_search.specs.Best.{IsFoundBest, list_of}
use Rattle.nash_search.specs.Waiting.{IsReadyForNext, IsWalk, to_come, count_all, best_all}
use Rattle.nash_search.specs.declared.found.Found.{Found}
use Rattle.nash_search.specs.declared.walk.Walk.{Walk}

-- a walk through a task, as contracts see it: the task and the rule of counting, how many prefixes are counted so far, the best allocation among
-- them, and the place
pub record Pieces : Type 0 where
  pub task : ℕ
  pub floor : Pair
  pub above : Option Pair
  pub nodes : ℕ
  pub best : Option Found
  pub place : Walk

-- a walk through a task of the case: the prefixes counted so far and those still waiting are all that the task counts, and the best of both is the
-- task's best
pub record IsTaskWalk (case : GoodsCase) (pieces : Pieces) : Type 0 where
  pub walk : IsWalk case pieces.place
  pub settled : IsReadyForNext pieces.place
  pub is_floor : pieces.place.rules.floor ≡ pieces.floor
  pub is_above : pieces.place.rules.above ≡ pieces.above
  pub is_nodes : pieces.nodes ≡ pieces.place.nodes
  pub is_best : pieces.best ≡ pieces.place.best
  pub count : pieces.place.nodes + count_all case pieces.floor pieces.above (to_come pieces.place) ≡ count_task case pieces.task pieces.floor pieces.above
  pub kept : best_all case pieces.floor pieces.above (to_come pieces.place) (list_of pieces.place.best)
      ≡ best case pieces.floor pieces.above (case.facts.goods - depth_of case) (task_list case pieces.task) None

-- after a piece of at most this many prefixes, all of the task are counted and the best allocation is found, or exactly this many more prefixes are
-- counted and some are left
abbrev pub Advanced : GoodsCase → Pieces → Pieces → ℕ → Bool → Type 0
Advanced case old new most true =
    (new.nodes ≤ old.nodes + most) × (new.nodes ≡ count_task case old.task old.floor old.above) × IsFoundBest case (counted_leaves case old.task old.floor old.above) new.best
Advanced case old new most false = (new.nodes ≡ old.nodes + most) × (new.nodes < count_task case old.task old.floor old.above)
