-- Blocks of tasks, as the step count is defined by them: how many tasks are in one and before it, and what is counted in it.
use Rattle.std.specs.Prelude.{ℕ, ◌-◌, ◌*◌, List, Option, min}
use Rattle.bid_rules.specs.declared.goods.GoodsCase.{GoodsCase}
use Rattle.bid_rules.specs.declared.pair.Pair.{Pair}
use Rattle.nash_bounds.specs.Counted.{count_tasks, counted_of_tasks}
use Rattle.nash_bounds.specs.Tasks.{tasks_of}
use Rattle.nash_bounds.specs.declared.limits.TheConstants.{BLOCK_TASKS}

-- how many tasks a block has, of which the last block may have fewer than the others
abbrev pub tasks_in : GoodsCase → ℕ → ℕ
tasks_in case block = min BLOCK_TASKS (tasks_of case - BLOCK_TASKS * block)

-- how many tasks come before a block
abbrev pub tasks_before : GoodsCase → ℕ → ℕ
tasks_before case block = min (BLOCK_TASKS * block) (tasks_of case)

-- how many prefixes of the block's tasks are counted, all by one rule
abbrev pub count_block : GoodsCase → Pair → Option Pair → ℕ → ℕ
count_block case floor above block = count_tasks case floor above (BLOCK_TASKS * block) (tasks_in case block)

-- the counted allocations of the block's tasks, in rising order
abbrev pub counted_of_block : GoodsCase → Pair → Option Pair → ℕ → List (List ℕ)
counted_of_block case floor above block = counted_of_tasks case floor above (BLOCK_TASKS * block) (tasks_in case block)
