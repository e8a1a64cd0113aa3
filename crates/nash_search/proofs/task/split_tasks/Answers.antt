use Rattle.std.proofs.Common.{arith, ◌≤◌, ◌^◌, ◌∙◌, sym, ap, subst}
use Rattle.bid_rules.specs.Goods.{player_count}
use Rattle.nash_search.proofs.TaskPlaces.{depth_is, depth_some}
use Rattle.nash_search.proofs.task.split_tasks.Goals as goal
use Rattle.nash_bounds.specs.declared.limits.TheConstants.{FEWEST_LISTS}

pub returns-else-tasks-lt-FEWEST_LISTS-clause-depth : goal.returns-else-tasks-lt-FEWEST_LISTS-clause-depth
returns-else-tasks-lt-FEWEST_LISTS-clause-depth c =
    sym (depth_is c.args.case.now c.loop-depth.depth c.loop-depth.invariant.short c.loop-depth.invariant.below (λ _. subst (λ n. FEWEST_LISTS ≤ n) c.loop-depth.invariant.tasks c.if-tasks-lt-FEWEST_LISTS.false))

pub returns-else-tasks-lt-FEWEST_LISTS-clause-tasks : goal.returns-else-tasks-lt-FEWEST_LISTS-clause-tasks
returns-else-tasks-lt-FEWEST_LISTS-clause-tasks c =
    let e = depth_is c.args.case.now c.loop-depth.depth c.loop-depth.invariant.short c.loop-depth.invariant.below (λ _. subst (λ n. FEWEST_LISTS ≤ n) c.loop-depth.invariant.tasks c.if-tasks-lt-FEWEST_LISTS.false) in
    c.loop-depth.invariant.tasks ∙ ap (λ d. player_count c.args.case.now ^ d) (sym e)

pub returns-after-loop-depth-clause-depth : goal.returns-after-loop-depth-clause-depth
returns-after-loop-depth-clause-depth c =
    let f = c.loop-depth-test.false in
    sym (depth_is c.args.case.now c.loop-depth.depth c.loop-depth.invariant.short c.loop-depth.invariant.below (λ h. absurd (omega arith)))

pub returns-after-loop-depth-clause-tasks : goal.returns-after-loop-depth-clause-tasks
returns-after-loop-depth-clause-tasks c =
    let f = c.loop-depth-test.false in
    let e = depth_is c.args.case.now c.loop-depth.depth c.loop-depth.invariant.short c.loop-depth.invariant.below (λ h. absurd (omega arith)) in
    c.loop-depth.invariant.tasks ∙ ap (λ d. player_count c.args.case.now ^ d) (sym e)

pub returns-else-tasks-lt-FEWEST_LISTS-clause-some : goal.returns-else-tasks-lt-FEWEST_LISTS-clause-some
returns-else-tasks-lt-FEWEST_LISTS-clause-some c = depth_some c.args.case.now c.requires

pub returns-after-loop-depth-clause-some : goal.returns-after-loop-depth-clause-some
returns-after-loop-depth-clause-some c = depth_some c.args.case.now c.requires
