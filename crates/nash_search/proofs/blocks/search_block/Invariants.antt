use Rattle.std.proofs.Common.{◌*◌, ◌≤◌}
use Rattle.nash_bounds.specs.declared.limits.TheConstants.{BLOCK_TASKS}
use Rattle.nash_search.specs.Progress.{IsTallied}
use Rattle.nash_search.proofs.blocks.search_block.Given as goal

abbrev pub invariant-loop-place : goal.invariant-loop-place
invariant-loop-place l = record {
  within : l.tally.nodes ≤ l.allowance;
  row : IsTallied l.case l.floor l.above (BLOCK_TASKS * l.block) l.place l.tally;
}
