use Rattle.std.proofs.Common.{arith, ap, get_or, length}
use Rattle.nash_bounds.proofs.OwnersAgain.{order_range}
use Rattle.nash_bounds.proofs.SortedGoods.{order_length}
use Rattle.nash_bounds.proofs.owners.owner_at.Goals as goal

pub overflow_sub-result : goal.overflow_sub-result
overflow_sub-result c =
    let e = order_length c.args.case.now in
    let r = order_range c.args.case.now c.args.place (let l = c.requires.place in let o = ap length c.requires.order in omega (arith, e)) in
    let same = ap (λ xs. get_or xs c.args.place 0) c.requires.order in
    omega (arith, r.0, same, c.from.ensures)

pub bounds-owners-from : goal.bounds-owners-from
bounds-owners-from c =
    let e = order_length c.args.case.now in
    let r = order_range c.args.case.now c.args.place (let l = c.requires.place in let o = ap length c.requires.order in omega (arith, e)) in
    let same = ap (λ xs. get_or xs c.args.place 0) c.requires.order in
    omega (arith, r.0, r.1, same, c.from.ensures, c.requires.owners)
