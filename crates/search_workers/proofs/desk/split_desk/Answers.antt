use Rattle.std.proofs.Common.{arith}
use Rattle.search_workers.proofs.DeskSteps.{split_keeps}
use Rattle.search_workers.proofs.desk.split_desk.Goals as goal

pub split_seat-requires : goal.split_seat-requires
split_seat-requires c =
    let key = c.args.desk.now.shared.key in
    let seat = c.args.seat.now in
    let two = c.requires.of.1 in
    (c.requires.of.0, omega (arith, two), λ s r at. split_keeps key.left key.workers seat.id s seat.me.0 r at c.requires.allot c.requires.tickets c.requires.stops)
