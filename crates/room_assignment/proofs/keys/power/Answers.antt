use Rattle.std.proofs.Common.{arith, ◌≡◌, ◌<◌, ◌≤◌, ◌^◌, ℕ}
use Rattle.std.proofs.Math.Nat.{pow-le-pow_left, pow-le-pow_right, mul-le-mul_right}
use Rattle.room_assignment.proofs.keys.power.Goals as goal

-- the power is small
power_small : (base k : ℕ) → base ≤ 12 → k ≤ 12 → base ^ k ≤ 8916100448256
power_small base k h l =
    let first : base ^ k ≤ 12 ^ k = pow-le-pow_left h k in
    let some : 0 < 12 = omega arith in
    let second : 12 ^ k ≤ 12 ^ 12 = pow-le-pow_right some l in
    omega (arith, first, second)

pub overflow_mul-power : goal.overflow_mul-power
overflow_mul-power c =
    let is : c.loop-k.power ≡ c.args.base ^ c.loop-k._k = c.loop-k.invariant in
    let small : c.loop-k.power ≤ 8916100448256 = let h = power_small c.args.base c.loop-k._k c.requires.high (omega arith) in omega (arith, is, h) in
    let scaled = mul-le-mul_right c.from-power.result small in
    let high = c.requires.high in
    let same = c.from-power.ensures in
    omega (arith, scaled, high)

pub returns-clause-small : goal.returns-clause-small
returns-clause-small c =
    let is : c.loop-k.power ≡ c.args.base ^ c.loop-k._k = c.loop-k.invariant in
    let h = power_small c.args.base c.loop-k._k c.requires.high (omega arith) in omega (arith, is, h)
