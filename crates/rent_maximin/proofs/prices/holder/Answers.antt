use Rattle.std.proofs.Common.{arith, length}
use Rattle.split_lemmas.proofs.RoomPlaces.{room_place}
use Rattle.rent_maximin.proofs.prices.holder.Goals as goal

pub returns : goal.returns
returns c = let there = room_place (length c.args.rooms.now) c.args.rooms.now c.args.room c.requires.rooms c.requires.low c.requires.high in
    absurd (c.loop-k.invariant there.0 (omega (arith, there.1)) there.2)
