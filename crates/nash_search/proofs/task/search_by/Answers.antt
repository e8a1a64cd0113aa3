use Rattle.std.proofs.Common.{arith}
use Rattle.nash_search.proofs.TaskEnds.{task_finished, task_stopped}
use Rattle.nash_search.proofs.task.search_by.Goals as goal

pub returns-then-nodes-allowance : goal.returns-then-nodes-allowance
returns-then-nodes-allowance c =
    let over = c.if-nodes-allowance.true in
    let nodes = c.nodes-nodes.ensures in
    let start = c.walk_by-walk.ensures in
    rw c.nodes-nodes.ensures (task_stopped c.args.case.now c.args.task c.args.floor c.args.above c.walk_by-walk.result c.advance-all.new.self c.args.allowance c.advance-all.result
    start.task start.floor start.above c.advance-all.ensures.advanced start.nodes (omega (arith, over, nodes)))

pub returns : goal.returns
returns c =
    let within = c.if-nodes-allowance.false in
    let nodes = c.nodes-nodes.ensures in
    let start = c.walk_by-walk.ensures in
    rw (c.nodes-nodes.ensures, c.best.ensures) (task_finished c.args.case.now c.args.task c.args.floor c.args.above c.walk_by-walk.result c.advance-all.new.self c.args.allowance c.advance-all.result
    start.task start.floor start.above c.advance-all.ensures.advanced start.nodes (omega (arith, within, nodes)))
