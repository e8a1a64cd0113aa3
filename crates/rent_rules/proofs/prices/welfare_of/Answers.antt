use Rattle.std.proofs.Common.{arith, ◌∙◌, ap, get_or}
use Rattle.std.proofs.lemmas.Int.{ints}
use Rattle.bid_rules.specs.Rent.{value}
use Rattle.split_lemmas.proofs.Totals.{total_more}
use Rattle.rent_rules.proofs.prices.welfare_of.Goals as goal

pub loop-member-preserved : goal.loop-member-preserved
loop-member-preserved c =
    let high = c.value_at-sum.ensures.high in
    let here = c.value_at-sum.ensures.value ∙ ap (value c.args.case.now c.loop-member.member) c.room_at.ensures.value in
    let more = total_more (λ i. value c.args.case.now i (get_or c.args.rooms.now i 0)) c.loop-member.member in
    let cast = c.value_at-sum.ensures.low in
    let few = c.requires.case.facts.0 in
    let test = c.loop-member-test.true in
    let sum = c.loop-member.invariant.sum in
    let small = c.loop-member.invariant.small in
    record { sum = omega (arith, ints, here, more, sum, small, high, few.1, test, cast); small = omega (arith, ints, small, high, few.1, test, cast) }
