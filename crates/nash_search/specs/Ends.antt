-- How a walk through a task, or through tasks in a row, ends: done, with the best allocation found, or stopped one prefix past the allowance.
use Rattle.std.specs.Prelude.{◌≡◌, ℕ, ◌+◌, ◌≤◌, List}
use Rattle.bid_rules.specs.declared.goods.GoodsCase.{GoodsCase}
use Rattle.nash_search.specs.Best.{IsFoundBest}
use Rattle.nash_search.specs.declared.task.TaskEnd.{TaskEnd}
use Rattle.nash_search.specs.declared.task.TaskEnd.TheVariants.{Done, Stopped}

-- a task ends with all its counted prefixes counted, within the allowance, with the best counted allocation found; or it stops one prefix past
-- the allowance
abbrev pub EndsTask : GoodsCase → ℕ → List (List ℕ) → ℕ → TaskEnd → Type 0
EndsTask case count allocations allowance (Done nodes best) = (nodes ≤ allowance) × (nodes ≡ count) × IsFoundBest case allocations best
EndsTask case count allocations allowance (Stopped nodes) = (nodes ≡ allowance + 1) × (nodes ≤ count)

-- how many prefixes of a task were counted by its end
abbrev pub nodes_in : TaskEnd → ℕ
nodes_in (Done nodes best) = nodes
nodes_in (Stopped nodes) = nodes
