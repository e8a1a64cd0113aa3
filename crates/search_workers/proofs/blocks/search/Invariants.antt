use Rattle.std.proofs.Common.{◌-◌, ◌*◌}
use Rattle.nash_bounds.specs.Tasks.{tasks_of}
use Rattle.nash_bounds.specs.declared.limits.TheConstants.{BLOCK_TASKS}
use Rattle.nash_search.specs.Progress.{IsProgress}
use Rattle.search_workers.proofs.blocks.search.Given as goal

abbrev pub invariant-search : goal.invariant-search
invariant-search g l = IsProgress l.case l.progress

abbrev pub decreases-search : goal.decreases-search
decreases-search g l = tasks_of l.case - BLOCK_TASKS * l.progress.block
