-- The powers of numbers of points fit their types.
use Rattle.std.proofs.Common.{◌≡◌, ℕ, suc, zero, ◌+◌, ◌-◌, ◌*◌, ◌/◌, ◌^◌, ◌<◌, ◌≤◌, Bool, true, false, cond, nat_le, nat_lt, arith, refl, sym, ap, ◌∙◌, subst}
use Rattle.std.proofs.Math.Nat.{mul-le-mul, mul-le-mul_left, pow-le-pow_right, pow-zero}
use Rattle.std.proofs.lemmas.Bool.Decides.{nat_tests}
use Rattle.bid_rules.specs.declared.limits.TheConstants.{WHOLE_POINTS}
use Rattle.estate_bounds.specs.declared.limits.TheConstants.{LOG_BITS, MOST_LOG, ONE, SQUARINGS}
use Rattle.estate_bounds.specs.declared.logs.Power.{Power}
use Rattle.estate_bounds.specs.Logs.{as_power, halved, log_down, log_up, power_after, squared}
use Rattle.estate_bounds.proofs.LogLaws.{after_small, as_small}

-- a significand below 2 stays
pub stays : (rounding : ℕ) (power : Power) → power.significand < 2 * ONE → power ≡ halved rounding power
unfolding halved
stays rounding power l = sym (ap (λ (b : Bool). cond b (let q : Power = record { significand = (power.significand + rounding) / 2; exponent = power.exponent + 1 } in q) power) (fails (2 * ONE) power.significand l))
  where
    fails : (a b : ℕ) → b < a → nat_le a b ≡ false
    fails a b h = grind (arith, nat_tests)

-- another is halved
pub is_halved : (rounding : ℕ) (power : Power) → 2 * ONE ≤ power.significand → (let q : Power = record { significand = (power.significand + rounding) / 2; exponent = power.exponent + 1 } in q) ≡ halved rounding power
unfolding halved
is_halved rounding power l = sym (ap (λ (b : Bool). cond b (let q : Power = record { significand = (power.significand + rounding) / 2; exponent = power.exponent + 1 } in q) power) (passes (2 * ONE) power.significand l))
  where
    passes : (a b : ℕ) → a ≤ b → nat_le a b ≡ true
    passes a b h = grind (arith, nat_tests)

-- the square
pub is_squared : (rounding : ℕ) (power : Power) → halved rounding (record { significand = (power.significand * power.significand + rounding * (ONE - 1)) / ONE; exponent = 2 * power.exponent }) ≡ squared rounding power
unfolding squared
is_squared rounding power = refl

-- the number itself
pub as_first : (rounding number : ℕ) → (let q : Power = record { significand = number * ONE; exponent = 0 } in q) ≡ as_power rounding number 0
unfolding as_power
as_first rounding number = refl

-- halved once more
pub as_next : (rounding number n : ℕ) → halved rounding (as_power rounding number n) ≡ as_power rounding number (n + 1)
unfolding as_power
as_next rounding number n = (let e : n + 1 ≡ suc n = omega arith in sym (ap (as_power rounding number) e))

-- not squared yet
pub after_first : (rounding number : ℕ) → as_power rounding number LOG_BITS ≡ power_after rounding number 0
unfolding power_after
after_first rounding number = refl

-- squared once more
pub after_next : (rounding number n : ℕ) → squared rounding (power_after rounding number n) ≡ power_after rounding number (n + 1)
unfolding power_after
after_next rounding number n = (let e : n + 1 ≡ suc n = omega arith in sym (ap (power_after rounding number) e))

-- what is halved fits
pub as_fits : (rounding number n : ℕ) → rounding ≤ 1 → number ≤ WHOLE_POINTS → n ≤ LOG_BITS → ((as_power rounding number n).significand ≤ 2 ^ 126) × ((as_power rounding number n).exponent ≤ n)
as_fits rounding number n r small l =
    let h = as_small rounding number n (LOG_BITS - n) r small (omega arith) in
    let p : 2 ^ (LOG_BITS - n) ≤ 2 ^ LOG_BITS = pow-le-pow_right {n = 2} (omega arith) {i = LOG_BITS - n} {j = LOG_BITS} (omega arith) in
    let a : 2 * ONE * 2 ^ (LOG_BITS - n) ≤ 2 * ONE * 2 ^ LOG_BITS = mul-le-mul_left (2 * ONE) p in
    let b = h.0 in
    (omega arith, h.1)

-- a square fits
pub square_fits : (rounding s : ℕ) → rounding ≤ 1 → s ≤ 2 * ONE → (s * s ≤ 2 ^ 122) × (rounding * (ONE - 1) ≤ ONE)
square_fits rounding s r le =
    let a : s * s ≤ 2 * ONE * (2 * ONE) = mul-le-mul le le in
    let b : (ONE - 1) * rounding ≤ (ONE - 1) * 1 = mul-le-mul_left (ONE - 1) r in
    (omega arith, omega arith)

-- what is squared fits
pub after_fits : (rounding number n : ℕ) → rounding ≤ 1 → number ≤ WHOLE_POINTS → n < SQUARINGS → ((power_after rounding number n).significand ≤ 2 * ONE) × (2 * (power_after rounding number n).exponent ≤ MOST_LOG)
after_fits rounding number n r small l =
    let h = after_small rounding number n r small in
    let p : 2 ^ n ≤ 2 ^ 31 = pow-le-pow_right {n = 2} (omega arith) {i = n} {j = 31} (omega arith) in
    let b = h.1 in
    (h.0, omega arith)

-- the number as a power
pub as_done : (rounding number : ℕ) → rounding ≤ 1 → number ≤ WHOLE_POINTS → ((as_power rounding number LOG_BITS).significand ≤ 2 * ONE) × ((as_power rounding number LOG_BITS).exponent ≤ LOG_BITS)
as_done rounding number r small =
    let h = as_small rounding number LOG_BITS 0 r small (omega arith) in
    let z : 2 ^ 0 ≡ 1 = pow-zero 2 in
    let a : (as_power rounding number LOG_BITS).significand ≤ 2 * ONE * 1 = subst (λ k. (as_power rounding number LOG_BITS).significand ≤ 2 * ONE * k) z h.0 in
    (omega arith, h.1)

-- its logarithm is small
pub after_done : (rounding number : ℕ) → rounding ≤ 1 → number ≤ WHOLE_POINTS → (power_after rounding number SQUARINGS).exponent + 1 ≤ MOST_LOG
after_done rounding number r small = (let h = (after_small rounding number SQUARINGS r small).1 in omega arith)

-- the logarithms themselves
pub down_is : (number : ℕ) → (power_after 0 number SQUARINGS).exponent ≡ log_down number
unfolding log_down
down_is number = refl

pub up_is : (number : ℕ) → (power_after 1 number SQUARINGS).exponent + cond (nat_lt ONE (power_after 1 number SQUARINGS).significand) 1 0 ≡ log_up number
unfolding log_up
up_is number = refl
