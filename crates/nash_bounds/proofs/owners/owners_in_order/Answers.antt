use Rattle.std.proofs.Common.{arith, ap, length}
use Rattle.nash_bounds.proofs.SortedGoods.{order_length}
use Rattle.nash_bounds.proofs.owners.owners_in_order.Goals as goal

pub push-requires : goal.push-requires
push-requires c =
    let e = order_length c.args.case.now in
    let o = ap length c.requires.order in
    let few = c.requires.case.facts.counts.3 in
    let test = c.loop-k-test.true in
    let count = c.loop-k.invariant.count in
    (omega arith, omega (arith, e, o, few, test, count))
