use Rattle.std.proofs.Common.{arith}
use Rattle.search_workers.proofs.DeskSteps.{reports}
use Rattle.search_workers.proofs.desk.report.Goals as goal

pub fetch_add-found-requires : goal.fetch_add-found-requires
fetch_add-found-requires c =
    let key = c.args.desk.now.shared.key in
    let id = c.args.desk.now.shared.table_id in
    let seat = c.args.seat.now in
    let count = c.requires.count in
    let two = c.requires.of.1 in (
      c.requires.of.0,
      omega (arith, two),
      reports key.left key.workers id.slots seat.id c.from-count.result seat.me (omega (arith, c.from-count.ensures, count.0)) (omega (arith, c.from-count.ensures, count.1)) c.requires.room,
    )
