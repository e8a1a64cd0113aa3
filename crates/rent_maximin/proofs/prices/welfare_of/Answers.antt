use Rattle.std.proofs.Common.{arith, ◌≡◌, ◌∙◌, ap, get_or}
use Rattle.std.proofs.lemmas.Int.{ints}
use Rattle.bid_rules.specs.Rent.{room_count, value}
use Rattle.split_lemmas.proofs.RoomPlaces.{rooms_length, room_range}
use Rattle.split_lemmas.proofs.Totals.{total_more}
use Rattle.rent_maximin.proofs.prices.welfare_of.Goals as goal

pub bounds-rooms-member : goal.bounds-rooms-member
bounds-rooms-member c = let e = rooms_length (room_count c.args.case.now) c.args.rooms.now c.requires.rooms in let test = c.loop-member-test.true in omega arith

pub value_of-sum-requires-clause-room_low : goal.value_of-sum-requires-clause-room_low
value_of-sum-requires-clause-room_low c = let test = c.loop-member-test.true in let r = room_range (room_count c.args.case.now) c.args.rooms.now c.loop-member.member c.requires.rooms (omega arith) in omega (arith, r.0, c.from.ensures)

pub value_of-sum-requires-clause-room_high : goal.value_of-sum-requires-clause-room_high
value_of-sum-requires-clause-room_high c = let test = c.loop-member-test.true in let r = room_range (room_count c.args.case.now) c.args.rooms.now c.loop-member.member c.requires.rooms (omega arith) in omega (arith, r.1, c.from.ensures)

pub loop-member-preserved : goal.loop-member-preserved
loop-member-preserved c =
    let high = c.value_of-sum.ensures.high in
    let low = c.value_of-sum.ensures.low in
    let here : c.value_of-sum.result ≡ value c.args.case.now c.loop-member.member (get_or c.args.rooms.now c.loop-member.member 0) = c.value_of-sum.ensures.value ∙ ap (value c.args.case.now c.loop-member.member) c.from.ensures in
    let more = total_more (λ i. value c.args.case.now i (get_or c.args.rooms.now i 0)) c.loop-member.member in
    let few = c.requires.case.facts.0 in
    let test = c.loop-member-test.true in
    let sum = c.loop-member.invariant.sum in
    let small = c.loop-member.invariant.small in
    record { sum = omega (arith, ints, here, more, sum, small, high, low, few.1, test); small = omega (arith, ints, small, high, low, few.1, test) }
