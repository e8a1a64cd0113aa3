use Rattle.std.proofs.Common.{arith, rules, ◌*◌, ◌^◌, ◌+◌, ◌<◌, ◌≤◌, get_or}
use Rattle.std.proofs.Math.Nat.{pow-le-pow_right}
use Rattle.nash_bounds.proofs.NextEntries.{power_next}
use Rattle.nash_bounds.specs.declared.limits.TheConstants.{HALF_ROOM}
use Rattle.nash_bounds.proofs.vectors.half_product.Goals as goal
use Rattle.bid_rules.specs.declared.limits.TheConstants.{WHOLE_POINTS}

-- the factor of a number is at most all points of a player
factor_small : (c : goal.After-from-product) → c.from-product.result ≤ WHOLE_POINTS
factor_small c =
    let here = c.loop-number-test.true in
    let small : get_or c.args.numbers.now c.loop-number.number-index 0 ≤ WHOLE_POINTS = c.requires.small c.loop-number.number-index 0 (omega arith) in
    omega (arith, c.from-product.ensures)

-- with it the product is at most one more power of these
grown : (c : goal.After-from-product) → c.loop-number.product * c.from-product.result ≤ WHOLE_POINTS ^ (c.loop-number.number-index + 1)
grown c = power_next c.loop-number.product c.from-product.result c.loop-number.number-index c.loop-number.invariant.small (factor_small c)

pub overflow_mul-product : goal.overflow_mul-product
overflow_mul-product c =
    let short = c.requires.short in
    let here = c.loop-number-test.true in
    let next : c.loop-number.number-index + 1 ≤ HALF_ROOM = omega arith in
    let e : WHOLE_POINTS ^ (c.loop-number.number-index + 1) ≤ WHOLE_POINTS ^ HALF_ROOM = pow-le-pow_right (omega arith) next in
    let h = grown c in
    let f : c.loop-number.product * c.from-product.result < 2 ^ 64 = omega arith in
    search rules

pub returns-clause-small : goal.returns-clause-small
returns-clause-small c =
    let short = c.requires.short in
    let small = c.loop-number.invariant.small in
    let l = c.loop-number.auto.number-index-end in
    let i : c.loop-number.number-index ≤ HALF_ROOM = omega arith in
    let e : WHOLE_POINTS ^ c.loop-number.number-index ≤ WHOLE_POINTS ^ HALF_ROOM = pow-le-pow_right (omega arith) i in
    omega arith
