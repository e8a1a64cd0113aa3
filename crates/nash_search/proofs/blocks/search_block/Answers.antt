use Rattle.std.proofs.Common.{◌≡◌, ◌≤◌, ◌+◌, ◌-◌, ◌*◌, arith, subst}
use Rattle.nash_bounds.specs.Blocks.{tasks_in}
use Rattle.nash_bounds.specs.Counted.{count_task, count_tasks, counted_leaves}
use Rattle.nash_bounds.specs.declared.limits.TheConstants.{BLOCK_TASKS}
use Rattle.nash_search.specs.Progress.{AfterTask}
use Rattle.nash_search.proofs.BlockEnds.{ends_small}
use Rattle.nash_search.proofs.blocks.search_block.Goals as goal

pub loop-place-init : goal.loop-place-init
loop-place-init c =
    let zero = c.new-tally.ensures.nodes in
    record { within = omega (arith, zero); row = c.new-tally.ensures.row c.args.case.now c.args.floor c.args.above (BLOCK_TASKS * c.args.block) }

pub add-requires : goal.add-requires
add-requires c =
    let small = ends_small c.args.case.now (count_task c.args.case.now (BLOCK_TASKS * c.args.block + c.loop-place.place) c.args.floor c.args.above)
    (counted_leaves c.args.case.now (BLOCK_TASKS * c.args.block + c.loop-place.place) c.args.floor c.args.above) (c.args.allowance - c.loop-place.tally.nodes) c.search_by-end.result c.search_by-end.ensures in
    let within = c.loop-place.invariant.within in
    let most = c.requires.allowance in
    omega (arith, small, within, most)

pub returns-then-not-add : goal.returns-then-not-add
returns-then-not-add c =
    let after = subst (AfterTask c.args.case.now c.args.floor c.args.above (BLOCK_TASKS * c.args.block) c.loop-place.place c.args.allowance c.add.new.self) c.if-not-add.true
    (c.add.ensures c.args.case.now c.args.floor c.args.above (BLOCK_TASKS * c.args.block) c.loop-place.place c.args.allowance c.loop-place.invariant.within c.loop-place.invariant.row c.search_by-end.ensures) in
    let all = c.tasks_in_block-tasks.ensures.tasks in
    let less = c.loop-place-test.true in
    let rest : c.loop-place.place + 1 + (tasks_in c.args.case.now c.args.block - (c.loop-place.place + 1)) ≡ tasks_in c.args.case.now c.args.block = omega (arith, all, less) in
    let le = subst (λ n. count_tasks c.args.case.now c.args.floor c.args.above (BLOCK_TASKS * c.args.block) (c.loop-place.place + 1) ≤ count_tasks c.args.case.now c.args.floor c.args.above (BLOCK_TASKS * c.args.block) n) rest
    (c.tasks_in_row_law.ensures.rises c.args.case.now c.args.floor c.args.above (BLOCK_TASKS * c.args.block) (c.loop-place.place + 1) (tasks_in c.args.case.now c.args.block - (c.loop-place.place + 1))) in
    let within = after.1 in
    (after.0, omega (arith, within, le))

pub loop-place-preserved : goal.loop-place-preserved
loop-place-preserved c =
    let after = subst (AfterTask c.args.case.now c.args.floor c.args.above (BLOCK_TASKS * c.args.block) c.loop-place.place c.args.allowance c.add.new.self) c.if-not-add.false
    (c.add.ensures c.args.case.now c.args.floor c.args.above (BLOCK_TASKS * c.args.block) c.loop-place.place c.args.allowance c.loop-place.invariant.within c.loop-place.invariant.row c.search_by-end.ensures) in
    record { within = after.0; row = after.1 }

pub returns : goal.returns
returns c =
    let end = c.loop-place.auto.place-end in
    let past = c.loop-place-test.false in
    let all = c.tasks_in_block-tasks.ensures.tasks in
    let at : c.loop-place.place ≡ tasks_in c.args.case.now c.args.block = omega (arith, end, past, all) in
    rw (← at) (c.loop-place.invariant.within, c.loop-place.invariant.row.count, c.loop-place.invariant.row.found)
