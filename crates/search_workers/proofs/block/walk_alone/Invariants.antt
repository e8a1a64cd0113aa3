use Rattle.std.proofs.Common.{◌*◌, ◌≤◌}
use Rattle.nash_bounds.specs.declared.limits.TheConstants.{BLOCK_TASKS}
use Rattle.nash_search.specs.Progress.{IsTallied}
use Rattle.search_workers.proofs.block.walk_alone.Given as goal

abbrev pub invariant-tasks : goal.invariant-tasks
invariant-tasks g l = record {
  within : l.tally.nodes ≤ l.rule.left;
  row : IsTallied l.case l.rule.floor l.rule.above (BLOCK_TASKS * l.rule.block) l.place l.tally;
}
