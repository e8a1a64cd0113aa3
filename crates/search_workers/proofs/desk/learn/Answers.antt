use Rattle.std.proofs.Common.{arith}
use Rattle.search_workers.proofs.LastView.{learns}
use Rattle.search_workers.proofs.desk.learn.Goals as goal

pub load-requires : goal.load-requires
load-requires c =
    let key = c.args.desk.now.shared.key in
    let id = c.args.desk.now.shared.table_id in
    let seat = c.args.seat.now in
    let two = c.requires.of.1 in
    (c.requires.of.0, omega (arith, two), learns key.left key.workers id.slots seat.id seat.me c.requires.all.0 c.requires.all.1)
