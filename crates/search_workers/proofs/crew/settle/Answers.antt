use Rattle.std.proofs.Common.{arith}
use Rattle.search_workers.proofs.TicketTasks.{RowLaws}
use Rattle.search_workers.proofs.WorkersEnd.{ended_done, ended_over}
use Rattle.search_workers.proofs.crew.settle.Goals as goal

-- the laws of rows, from the call
pub returns-then-walked : goal.returns-then-walked
returns-then-walked c =
    let law = c.tasks_in_row_law.ensures in
    let laws : RowLaws = record { none = law.none; more = law.more; rises = law.rises; none_counted = law.none_counted; more_counted = law.more_counted } in
    let e = c.requires.ended in
    let nodes = e.reported in
    let over = ended_over laws c.args.case.now c.args.rule.now c.args.workers c.learn.result c.args.all.walked.best c.args.all.seat.me.0 e.stands c.learn.ensures.all (e.stopped c.if-walked.true) in
    (omega (arith, over.0, nodes), omega (arith, over.1, nodes), omega (arith, over.2, nodes))

pub returns : goal.returns
returns c =
    let law = c.tasks_in_row_law.ensures in
    let laws : RowLaws = record { none = law.none; more = law.more; rises = law.rises; none_counted = law.none_counted; more_counted = law.more_counted } in
    let e = c.requires.ended in
    let nodes = e.reported in
    let done = ended_done laws c.args.case.now c.args.rule.now c.args.workers c.learn.result c.args.all.walked.best c.args.all.seat.me.0 e.stands c.learn.ensures.all (e.going c.if-walked.false) in
    (omega (arith, done.0, nodes), omega (arith, done.1, nodes), done.2)
