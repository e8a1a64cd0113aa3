use Rattle.search_workers.proofs.DeskSteps.{draws}
use Rattle.std.proofs.Common.{arith}
use Rattle.search_workers.proofs.desk.draw.Goals as goal

pub fetch_add-requires : goal.fetch_add-requires
fetch_add-requires c =
    let key = c.args.desk.now.shared.key in
    let id = c.args.desk.now.shared.table_id in
    let seat = c.args.seat.now in
    let two = c.requires.of.1 in
    (c.requires.of.0, omega (arith, two), draws key.left key.workers id.slots seat.id seat.me c.requires.room)
