use Rattle.std.proofs.Common.{arith}
use Rattle.search_workers.proofs.DeskSteps.{join_keeps}
use Rattle.search_workers.proofs.desk.join_desk.Goals as goal

pub join_seat-requires : goal.join_seat-requires
join_seat-requires c =
    let key = c.args.desk.now.shared.key in
    let seat = c.args.seat.now in
    let other = c.args.other in
    let two = c.requires.of.1 in (
      c.requires.of.0,
      c.requires.other.0,
      c.requires.other.1,
      omega (arith, two),
      λ s r at apart there. join_keeps key.left key.workers seat.id other.id s seat.me.0 other.me.0 r at apart there c.requires.stands,
    )
