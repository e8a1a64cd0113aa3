use Rattle.std.proofs.Common.{arith}
use Rattle.bid_rules.specs.Rent.{room_count}
use Rattle.split_lemmas.proofs.RoomPlaces.{rooms_length, room_range}
use Rattle.rent_rules.proofs.numbers.room_at.Goals as goal

pub bounds-rooms-member : goal.bounds-rooms-member
bounds-rooms-member c = let e = rooms_length (room_count c.args._case.now) c.args.rooms.now c.requires.rooms in omega (arith, e)

pub returns-clause-low : goal.returns-clause-low
returns-clause-low c = let r = room_range (room_count c.args._case.now) c.args.rooms.now c.args.member c.requires.rooms c.requires.member in omega (arith, r.0)

pub returns-clause-high : goal.returns-clause-high
returns-clause-high c = let r = room_range (room_count c.args._case.now) c.args.rooms.now c.args.member c.requires.rooms c.requires.member in omega (arith, r.1)
