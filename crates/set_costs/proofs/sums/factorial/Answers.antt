use Rattle.std.proofs.Common.{arith, ◌≡◌, ◌≤◌, ◌*◌, ◌+◌, ◌∙◌, ap, sym}
use Rattle.bid_rules.specs.declared.limits.TheConstants.{MOST_RIDERS}
use Rattle.bid_rules.specs.FareLimits.{most_orders}
use Rattle.bid_rules.specs.Orders.{factorial}
use Rattle.split_lemmas.proofs.Factorials.{factorial_more, factorial_rises}
use Rattle.set_costs.proofs.sums.factorial.Goals as goal

pub overflow_mul-orders : goal.overflow_mul-orders
overflow_mul-orders c =
    let test = c.loop-k-test.true in
    let few = c.requires in
    let next : c.loop-k.orders * (c.from.result + 1) ≡ factorial (c.loop-k.k + 1) =
    ap (λ n. n * (c.from.result + 1)) c.loop-k.invariant ∙ ap (λ k. factorial c.loop-k.k * (k + 1)) c.from.ensures ∙ sym (factorial_more c.loop-k.k) in
    let most = factorial_rises (c.loop-k.k + 1) MOST_RIDERS (omega (arith, test, few)) in
    let small : c.loop-k.orders * (c.from.result + 1) ≤ most_orders = omega (arith, next, most) in
    omega (arith, small)

pub returns-clause-small : goal.returns-clause-small
returns-clause-small c =
    let end = c.loop-k.auto.k-end in
    let few = c.requires in
    omega (arith, c.loop-k.invariant, factorial_rises c.loop-k.k MOST_RIDERS (omega (arith, end, few)))
