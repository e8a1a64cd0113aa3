use Rattle.std.proofs.Common.{◌≡◌, ◌≤◌, ◌+◌, ◌-◌, ◌*◌, arith, subst}
use Rattle.nash_bounds.specs.Blocks.{tasks_in}
use Rattle.nash_bounds.specs.Counted.{count_tasks}
use Rattle.nash_bounds.specs.declared.limits.TheConstants.{BLOCK_TASKS}
use Rattle.nash_search.specs.Progress.{AfterTask}
use Rattle.search_workers.proofs.block.walk_alone.Goals as goal

pub tasks-init : goal.tasks-init
tasks-init g c =
    let zero = c.new-tally.ensures.nodes in
    record { within = omega (arith, zero); row = c.new-tally.ensures.row c.args.case.now c.args.rule.now.floor c.args.rule.now.above (BLOCK_TASKS * c.args.rule.now.block) }

pub returns-then-not-add : goal.returns-then-not-add
returns-then-not-add g c =
    let after = subst (AfterTask c.args.case.now c.args.rule.now.floor c.args.rule.now.above (BLOCK_TASKS * c.args.rule.now.block) c.tasks.place c.args.rule.now.left c.add.new.self) c.if-not-add.true
    (c.add.ensures c.args.case.now c.args.rule.now.floor c.args.rule.now.above (BLOCK_TASKS * c.args.rule.now.block) c.tasks.place c.args.rule.now.left c.tasks.invariant.within c.tasks.invariant.row c.search_by-end.ensures) in
    let all = c.tasks_in_block-tasks.ensures.tasks in
    let less = c.tasks-test.true in
    let rest : c.tasks.place + 1 + (tasks_in c.args.case.now c.args.rule.now.block - (c.tasks.place + 1)) ≡ tasks_in c.args.case.now c.args.rule.now.block = omega (arith, all, less) in
    let le = subst (λ n. count_tasks c.args.case.now c.args.rule.now.floor c.args.rule.now.above (BLOCK_TASKS * c.args.rule.now.block) (c.tasks.place + 1) ≤ count_tasks c.args.case.now c.args.rule.now.floor c.args.rule.now.above (BLOCK_TASKS * c.args.rule.now.block) n) rest
    (c.tasks_in_row_law.ensures.rises c.args.case.now c.args.rule.now.floor c.args.rule.now.above (BLOCK_TASKS * c.args.rule.now.block) (c.tasks.place + 1) (tasks_in c.args.case.now c.args.rule.now.block - (c.tasks.place + 1))) in
    let at = after.0 in
    let within = after.1 in
    let some = c.requires.workers in
    (omega (arith, at), omega (arith, at, some), omega (arith, within, le))

pub tasks-preserved : goal.tasks-preserved
tasks-preserved g c =
    let after = subst (AfterTask c.args.case.now c.args.rule.now.floor c.args.rule.now.above (BLOCK_TASKS * c.args.rule.now.block) c.tasks.place c.args.rule.now.left c.add.new.self) c.if-not-add.false
    (c.add.ensures c.args.case.now c.args.rule.now.floor c.args.rule.now.above (BLOCK_TASKS * c.args.rule.now.block) c.tasks.place c.args.rule.now.left c.tasks.invariant.within c.tasks.invariant.row c.search_by-end.ensures) in
    record { within = after.0; row = after.1 }
