use Rattle.std.proofs.Common.{◌-◌, ◌*◌}
use Rattle.nash_bounds.specs.Tasks.{tasks_of}
use Rattle.nash_bounds.specs.declared.limits.TheConstants.{BLOCK_TASKS}
use Rattle.nash_search.specs.Progress.{IsProgress}
use Rattle.nash_search.proofs.division.search_alone.Given as goal

abbrev pub invariant-search : goal.invariant-search
invariant-search l = IsProgress l.case l.progress

abbrev pub decreases-search : goal.decreases-search
decreases-search l = tasks_of l.case - BLOCK_TASKS * l.progress.block
