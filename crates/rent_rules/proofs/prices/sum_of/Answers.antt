use Rattle.std.proofs.Common.{arith, pos, get_or}
use Rattle.std.proofs.lemmas.Int.{ints}
use Rattle.split_lemmas.proofs.Totals.{total_more}
use Rattle.rent_rules.proofs.prices.sum_of.Goals as goal

pub loop-k-preserved : goal.loop-k-preserved
loop-k-preserved c =
    let here = c.requires.small c.loop-k.k (pos 0) c.loop-k-test.true in
    let few = c.requires.few in
    let more = total_more (λ i. get_or c.args.walks.now i (pos 0)) c.loop-k.k in
    let sum = c.loop-k.invariant.sum in
    let small = c.loop-k.invariant.small in
    record { sum = omega (arith, ints, here, more, sum, small); small = omega (arith, ints, here, small) }
