-- Logarithms are rounded down and up, and small.
use Rattle.std.proofs.Common.{◌≡◌, ℕ, suc, zero, ◌+◌, ◌-◌, ◌*◌, ◌/◌, ◌^◌, ◌<◌, ◌≤◌, Bool, true, false, cond, nat_le, nat_lt, arith, refl, sym, ap, ◌∙◌, subst}
use Rattle.std.proofs.Math.Nat.{div-le_of_le-mul, le_of_mul-le-mul_right, mul-le-mul, mul-le-mul_left, one-le-pow, pow-le-pow_right, pow-suc, pow-zero}
use Rattle.std.proofs.lemmas.Bool.Decides.{nat_tests}
use Rattle.std.proofs.lemmas.Nat.{pow-add}
use Rattle.bid_rules.specs.declared.limits.TheConstants.{WHOLE_POINTS}
use Rattle.estate_bounds.specs.declared.limits.TheConstants.{LOG_BITS, MOST_LOG, ONE, SQUARINGS, TWO}
use Rattle.estate_bounds.specs.declared.logs.Power.{Power}
use Rattle.estate_bounds.specs.Logs.{as_power, halved, log_down, log_up, power_after, squared}
use Rattle.estate_bounds.proofs.LogSteps.{High, Low, high_halved, high_squared, low_halved, low_squared, twice}

-- the number's square in its square: a power of a power of 2
square_power : (number n : ℕ) → number ^ (2 ^ suc n) ≡ number ^ (2 ^ n) * number ^ (2 ^ n)
square_power number n =
    let e : 2 ^ suc n ≡ 2 ^ n + 2 ^ n = pow-suc 2 n ∙ omega arith in
    ap (λ k. number ^ k) e ∙ pow-add number (2 ^ n) (2 ^ n)

-- the first power
first_power : (number : ℕ) → number ^ (2 ^ 0) ≡ number
first_power number =
    let a : 2 ^ 0 ≡ 1 = pow-zero 2 in
    let z : number ^ 0 ≡ 1 = pow-zero number in
    ap (λ k. number ^ k) a ∙ pow-suc number 0 ∙ ap (λ k. k * number) z ∙ omega arith

-- from the number on
low_as : (number n : ℕ) → 1 ≤ number → Low (number * ONE) (as_power 0 number n)
unfolding as_power
low_as number zero some = record {
  within = (let z : 2 ^ 0 ≡ 1 = pow-zero 2 in rw z (omega arith));
  some = omega arith;
}
low_as number (suc n) some = low_halved (number * ONE) (as_power 0 number n) (low_as number n some)

-- after any number of squarings
low_after : (number n : ℕ) → 1 ≤ number → Low (number ^ (2 ^ n) * ONE) (power_after 0 number n)
unfolding power_after
low_after number zero some = subst (λ k. Low (k * ONE) (as_power 0 number LOG_BITS)) (sym (first_power number)) (low_as number LOG_BITS some)
low_after number (suc n) some =
    subst (λ k. Low (k * ONE) (squared 0 (power_after 0 number n))) (sym (square_power number n)) (low_squared (number ^ (2 ^ n)) (power_after 0 number n) (low_after number n some))

-- so the logarithm is rounded down
pub down_law : (number : ℕ) → 1 ≤ number → 2 ^ log_down number ≤ number ^ (2 ^ SQUARINGS)
unfolding log_down
down_law number some =
    let h = low_after number SQUARINGS some in
    let p = power_after 0 number SQUARINGS in
    let a : 2 ^ p.exponent * ONE ≤ 2 ^ p.exponent * p.significand = mul-le-mul_left (2 ^ p.exponent) h.some in
    let w : 2 ^ p.exponent * p.significand ≤ number ^ (2 ^ SQUARINGS) * ONE = h.within in
    last (2 ^ p.exponent * ONE) (2 ^ p.exponent * p.significand) (2 ^ p.exponent) (number ^ (2 ^ SQUARINGS)) refl a w
  where
    last : (x y e n : ℕ) → x ≡ e * ONE → x ≤ y → y ≤ n * ONE → e ≤ n
    last x y e n is le within = (let k : e * ONE ≤ n * ONE = omega arith in le_of_mul-le-mul_right k (omega arith))

-- rounded up, from the number on
high_as : (number n : ℕ) → High (number * ONE) (as_power 1 number n)
unfolding as_power
high_as number zero = (let z : 2 ^ 0 ≡ 1 = pow-zero 2 in rw z (omega arith))
high_as number (suc n) = high_halved (number * ONE) (as_power 1 number n) (high_as number n)

-- after any number of squarings
high_after : (number n : ℕ) → High (number ^ (2 ^ n) * ONE) (power_after 1 number n)
unfolding power_after
high_after number zero = subst (λ k. High (k * ONE) (as_power 1 number LOG_BITS)) (sym (first_power number)) (high_as number LOG_BITS)
high_after number (suc n) =
    subst (λ k. High (k * ONE) (squared 1 (power_after 1 number n))) (sym (square_power number n)) (high_squared (number ^ (2 ^ n)) (power_after 1 number n) (high_after number n))

-- half of what is at most twice a number, even rounded up
half_small : (rounding s x : ℕ) → rounding ≤ 1 → s ≤ 2 * x → (s + rounding) / 2 ≤ x
half_small zero s x r le = div-le_of_le-mul 2 {m = s + 0} {n = x} (omega arith)
half_small (suc zero) s x r le = lemma s x le
  where
    lemma : (s x : ℕ) → s ≤ 2 * x → (s + 1) / 2 ≤ x
    lemma s x le = omega arith
half_small (suc (suc k)) s x r le = absurd (omega arith)

-- what is halved if it is at least 2 is at most the half of its limit, if that is 2 or more
halved_small : (rounding x : ℕ) (power : Power) → rounding ≤ 1 → 2 * ONE ≤ x → power.significand ≤ 2 * x → (halved rounding power).significand ≤ x
unfolding halved
halved_small rounding x power r big le = split (nat_le (2 * ONE) power.significand) refl
  where
    below : (a b : ℕ) → nat_le a b ≡ false → b < a
    below a b h = grind (arith, nat_tests)

    split : (b : Bool) → nat_le (2 * ONE) power.significand ≡ b
        → (cond b (let q : Power = record { significand = (power.significand + rounding) / 2; exponent = power.exponent + 1 } in q) power).significand ≤ x
    split false e = (let k = below (2 * ONE) power.significand e in omega arith)
    split true e = half_small rounding power.significand x r le

-- the exponent rises by one at most
halved_exponent : (rounding most : ℕ) (power : Power) → power.exponent ≤ most → (halved rounding power).exponent ≤ most + 1
unfolding halved
halved_exponent rounding most power le = split (nat_le (2 * ONE) power.significand)
  where
    split : (b : Bool) → (cond b (let q : Power = record { significand = (power.significand + rounding) / 2; exponent = power.exponent + 1 } in q) power).exponent ≤ most + 1
    split false = omega arith
    split true = omega arith

-- how far a number has been halved
pub as_small : (rounding number n k : ℕ) → rounding ≤ 1 → number ≤ WHOLE_POINTS → n + k ≡ LOG_BITS → ((as_power rounding number n).significand ≤ 2 * ONE * 2 ^ k) × ((as_power rounding number n).exponent ≤ n)
unfolding as_power
as_small rounding number zero k r small is =
    let e : 2 ^ k ≡ 2 ^ LOG_BITS = ap (λ j. 2 ^ j) (let f : k ≡ LOG_BITS = omega arith in f) in
    (subst (λ j. number * ONE ≤ 2 * ONE * j) (sym e) (omega arith), omega arith)
as_small rounding number (suc n) k r small is =
    let h = as_small rounding number n (suc k) r small (omega arith) in
    let e : 2 ^ suc k ≡ 2 ^ k * 2 = pow-suc 2 k in
    let some : 1 ≤ 2 ^ k = one-le-pow k 2 (omega arith) in
    let le : (as_power rounding number n).significand ≤ 2 * (2 * ONE * 2 ^ k) = (let a = h.0 in omega arith) in (
      halved_small rounding (2 * ONE * 2 ^ k) (as_power rounding number n) r (omega arith) le,
      (let x = halved_exponent rounding n (as_power rounding number n) h.1 in omega arith),
    )

-- the square of what is at most 2, even rounded up, is at most 4
square_small : (rounding s : ℕ) → rounding ≤ 1 → s ≤ 2 * ONE → (s * s + rounding * (ONE - 1)) / ONE ≤ 2 * (2 * ONE)
square_small rounding s r le =
    let a : s * s ≤ 2 * ONE * (2 * ONE) = mul-le-mul le le in
    let b : rounding * (ONE - 1) ≤ 1 * (ONE - 1) = (let m = mul-le-mul_left (ONE - 1) r in omega arith) in
    within (s * s + rounding * (ONE - 1)) (omega arith)
  where
    within : (n : ℕ) → n ≤ 2 * ONE * (2 * ONE) + (ONE - 1) → n / ONE ≤ 2 * (2 * ONE)
    within n le = omega arith

-- a number's powers stay at most 2, and their exponents rise
pub after_small : (rounding number n : ℕ) → rounding ≤ 1 → number ≤ WHOLE_POINTS → ((power_after rounding number n).significand ≤ 2 * ONE) × ((power_after rounding number n).exponent + 1 ≤ (LOG_BITS + 2) * 2 ^ n)
unfolding power_after squared
after_small rounding number zero r small =
    let h = as_small rounding number LOG_BITS 0 r small (omega arith) in
    let z : 2 ^ 0 ≡ 1 = pow-zero 2 in
    let a : (as_power rounding number LOG_BITS).significand ≤ 2 * ONE * 1 = subst (λ k. (as_power rounding number LOG_BITS).significand ≤ 2 * ONE * k) z h.0 in
    let b = h.1 in
    (omega arith, subst (λ k. (as_power rounding number LOG_BITS).exponent + 1 ≤ (LOG_BITS + 2) * k) (sym z) (omega arith))
after_small rounding number (suc n) r small =
    let h = after_small rounding number n r small in
    let p = power_after rounding number n in
    let whole : Power = record { significand = (p.significand * p.significand + rounding * (ONE - 1)) / ONE; exponent = 2 * p.exponent } in
    let e : 2 ^ suc n ≡ 2 ^ n * 2 = pow-suc 2 n in
    let a = halved_small rounding (2 * ONE) whole r (omega arith) (square_small rounding p.significand r h.0) in
    let b = halved_exponent rounding (2 * p.exponent) whole (omega arith) in
    let c = h.1 in
    (a, omega arith)

-- so the logarithm is rounded up
pub up_law : (number : ℕ) → number ≤ WHOLE_POINTS → number ^ (2 ^ SQUARINGS) ≤ 2 ^ log_up number
unfolding log_up
up_law number small =
    let h : number ^ (2 ^ SQUARINGS) * ONE ≤ 2 ^ (power_after 1 number SQUARINGS).exponent * (power_after 1 number SQUARINGS).significand = high_after number SQUARINGS in
    let s = after_small 1 number SQUARINGS (omega arith) small in
    split (nat_lt ONE (power_after 1 number SQUARINGS).significand) (number ^ (2 ^ SQUARINGS)) (power_after 1 number SQUARINGS).exponent (power_after 1 number SQUARINGS).significand refl h s.0
  where
    no_more : (a b : ℕ) → nat_lt a b ≡ false → b ≤ a
    no_more a b h = grind (arith, nat_tests)

    split : (b : Bool) (n e s : ℕ) → nat_lt ONE s ≡ b → n * ONE ≤ 2 ^ e * s → s ≤ 2 * ONE → n ≤ 2 ^ (e + cond b 1 0)
    split true n e s is le most =
        let a : 2 ^ e * s ≤ 2 ^ e * (2 * ONE) = mul-le-mul_left (2 ^ e) most in
        let t : 2 ^ (e + 1) ≡ 2 * 2 ^ e = twice e in
        let k : n * ONE ≤ 2 ^ (e + 1) * ONE = rw t (omega arith) in
        le_of_mul-le-mul_right k (omega arith)
    split false n e s is le most =
        let small = no_more ONE s is in
        let a : 2 ^ e * s ≤ 2 ^ e * ONE = mul-le-mul_left (2 ^ e) small in
        let k : n * ONE ≤ 2 ^ e * ONE = omega arith in
        let z : e + 0 ≡ e = omega arith in
        subst (λ j. n ≤ 2 ^ j) (sym z) (le_of_mul-le-mul_right k (omega arith))
