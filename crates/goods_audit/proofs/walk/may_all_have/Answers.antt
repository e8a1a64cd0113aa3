use Rattle.std.proofs.Common.{◌≡◌, ◌+◌, ◌-◌, ◌<◌, slice_index, arith, subst}
use Rattle.goods_audit.proofs.walk.may_all_have.Goals as goal

pub returns-then-may_have-k-clause-some : goal.returns-then-may_have-k-clause-some
returns-then-may_have-k-clause-some c wrong =
    let k = c.loop-k.k in
    let back : k ≡ k + 1 - 1 = omega arith in
    let within = c.loop-k-test.true in
    let count = c.players-k-end.ensures.value in
    (k + 1, omega arith, omega (arith, within, count), subst (λ i. slice_index c.args.lanes.now.high i < slice_index c.args.whole.now.low i) back (rw (c.as_array-may_have.ensures, c.as_array-had.ensures) at c.if-may_have-k.true))
