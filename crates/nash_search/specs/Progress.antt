-- What the walks of a search have counted and found so far: in the first tasks of a row, and in the blocks before the next one.
use Rattle.std.specs.Prelude.{◌≡◌, ℕ, ◌+◌, ◌*◌, ◌<◌, ◌≤◌, Option, Bool, true, false}
use Rattle.bid_rules.specs.declared.goods.GoodsCase.{GoodsCase}
use Rattle.bid_rules.specs.declared.pair.Pair.{Pair}
use Rattle.nash_bounds.specs.Blocks.{tasks_before}
use Rattle.nash_bounds.specs.Counted.{count_tasks, counted_of_tasks}
use Rattle.nash_bounds.specs.Serving.{Serves}
use Rattle.nash_bounds.specs.Start.{IsStartValue}
use Rattle.nash_bounds.specs.Steps.{best_before, pair_kept, steps_before}
use Rattle.nash_bounds.specs.Tasks.{tasks_of}
use Rattle.nash_bounds.specs.declared.limits.TheConstants.{BLOCK_TASKS}
use Rattle.nash_search.specs.Best.{IsFoundBest, IsKept, list_of}
use Rattle.nash_search.specs.declared.progress.Progress.{Progress}
use Rattle.nash_search.specs.declared.tally.Tally.{Tally}

-- the tally counts the counted prefixes of n tasks in a row, and has the best of the counted allocations
pub record IsTallied (case : GoodsCase) (floor : Pair) (above : Option Pair) (from n : ℕ) (tally : Tally) : Type 0 where
  pub count : tally.nodes ≡ count_tasks case floor above from n
  pub found : IsFoundBest case (counted_of_tasks case floor above from n) tally.best

-- after one more task, the tally is whole and within the allowance, or it is one prefix past the allowance
abbrev pub AfterTask : GoodsCase → Pair → Option Pair → ℕ → ℕ → ℕ → Tally → Bool → Type 0
AfterTask case floor above from n allowance tally true = (tally.nodes ≤ allowance) × IsTallied case floor above from (n + 1) tally
AfterTask case floor above from n allowance tally false = (tally.nodes ≡ allowance + 1) × (tally.nodes ≤ count_tasks case floor above from (n + 1))

-- the blocks before the next one are searched: their steps are counted and within the limit, and what is kept may replace the best of their
-- allocations
pub record IsProgress (case : GoodsCase) (progress : Progress) : Type 0 where
  pub near : BLOCK_TASKS * progress.block < tasks_of case + BLOCK_TASKS
  pub start : IsStartValue case progress.floor
  pub steps : progress.nodes ≡ steps_before case progress.floor (tasks_before case progress.block)
  pub within : progress.nodes ≤ case.facts.limit
  pub serves : Serves case progress.floor (list_of progress.best) (best_before case (tasks_before case progress.block))
  pub kept : IsKept case progress.best

-- the Nash welfare of the best allocation kept so far, which counted prefixes of the next block have to exceed
abbrev pub pair_so_far : GoodsCase → Progress → Option Pair
pair_so_far case progress = pair_kept case (list_of progress.best)
