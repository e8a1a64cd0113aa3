use Rattle.std.proofs.Common.{arith}
use Rattle.std.proofs.lemmas.Int.{ints}
use Rattle.room_assignment.proofs.TreeLists.{rooms_more}
use Rattle.room_assignment.proofs.tree.with_rooms.Goals as goal

pub loop-room-preserved : goal.loop-room-preserved
loop-room-preserved c =
    let a = c.with_room-best.ensures.kept in
    let b = c.loop-room.invariant.kept in
    record {
      choice = c.with_room-best.ensures.choice;
      kept = omega (arith, ints);
      rooms = rooms_more c.args.keys.now c.args.tree.now c.args.member c.loop-room.room c.loop-room.best.slack c.with_room-best.result.slack c.loop-room.invariant.rooms a c.with_room-best.ensures.room;
    }
