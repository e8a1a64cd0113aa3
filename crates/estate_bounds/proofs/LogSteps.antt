-- What powers say of the number that they began with, and that their logarithms are rounded down and up.
use Rattle.std.proofs.Common.{◌≡◌, ℕ, suc, zero, ◌+◌, ◌-◌, ◌*◌, ◌/◌, ◌%◌, ◌^◌, ◌<◌, ◌≤◌, min, Bool, true, false, cond, nat_le, nat_lt, arith, refl, sym, ap, ◌∙◌, subst}
use Rattle.std.proofs.Math.Nat.{div-mul-le_self, le_of_mul-le-mul_right, mod-eq-sub-div-mul, mod-lt, mul-le-mul, mul-le-mul_left, mul-le-mul_right, one-le-pow, pow-le-pow_right, pow-suc, pow-zero}
use Rattle.std.proofs.lemmas.Bool.Decides.{nat_tests}
use Rattle.std.proofs.lemmas.Nat.{le-div, pow-add}
use Rattle.bid_rules.specs.declared.limits.TheConstants.{WHOLE_POINTS}
use Rattle.estate_bounds.specs.declared.limits.TheConstants.{LOG_BITS, MOST_LOG, ONE, SQUARINGS, TWO}
use Rattle.estate_bounds.specs.declared.logs.Power.{Power}
use Rattle.estate_bounds.specs.Logs.{as_power, halved, log_down, log_up, power_after, squared}

-- a test that fails, and one that passes
below : (a b : ℕ) → nat_le a b ≡ false → b < a
below a b h = grind (arith, nat_tests)

at_least : (a b : ℕ) → nat_le a b ≡ true → a ≤ b
at_least a b h = grind (arith, nat_tests)

-- one more power of 2
pub twice : (e : ℕ) → 2 ^ (e + 1) ≡ 2 * 2 ^ e
twice e = (let s : e + 1 ≡ suc e = omega arith in ap (λ k. 2 ^ k) s ∙ pow-suc 2 e ∙ (let f : 2 ^ e * 2 ≡ 2 * 2 ^ e = omega arith in f))

-- the power is no more than the number in question
pub record Low (bound : ℕ) (power : Power) : Type 0 where
  pub within : 2 ^ power.exponent * power.significand ≤ bound
  pub some : ONE ≤ power.significand

-- nor is it once halved and rounded down
pub low_halved : (bound : ℕ) (power : Power) → Low bound power → Low bound (halved 0 power)
unfolding halved
low_halved bound power h = split (nat_le (2 * ONE) power.significand) refl
  where
    half : (e s h' bound : ℕ) (p : ℕ) → p ≡ 2 * e → h' * 2 ≤ s → e * s ≤ bound → p * h' ≤ bound
    half e s h' bound p is le within = (let a : e * (h' * 2) ≤ e * s = mul-le-mul_left e le in rw is (omega arith))

    split : (b : Bool) → nat_le (2 * ONE) power.significand ≡ b
        → Low bound (cond b (let q : Power = record { significand = (power.significand + 0) / 2; exponent = power.exponent + 1 } in q) power)
    split false e = h
    split true e =
        let big : 2 * ONE ≤ power.significand = at_least (2 * ONE) power.significand e in
        let down : (power.significand + 0) / 2 * 2 ≤ power.significand + 0 = div-mul-le_self (power.significand + 0) 2 in
        record {
          within = half (2 ^ power.exponent) power.significand ((power.significand + 0) / 2) bound (2 ^ (power.exponent + 1)) (twice power.exponent) (omega arith) h.within;
          some = le-div ONE (power.significand + 0) 2 (omega arith) (omega arith);
        }

-- twice an exponent
doubled : (e : ℕ) → 2 ^ (2 * e) ≡ 2 ^ e * 2 ^ e
doubled e = (let s : 2 * e ≡ e + e = omega arith in ap (λ k. 2 ^ k) s ∙ pow-add 2 e e)

-- a quotient of a square
low_square : (t s q a one : ℕ) → 1 ≤ one → q * one ≤ s * s → t * s ≤ a * one → t * t * q ≤ a * a * one
low_square t s q a one some le within =
    let x : t * t * (q * one) ≤ t * t * (s * s) = mul-le-mul_left (t * t) le in
    let y : t * s * (t * s) ≤ a * one * (a * one) = mul-le-mul within within in
    let z : t * t * q * one ≤ a * a * one * one = omega arith in
    le_of_mul-le-mul_right z some

-- squares stay within the square
pub low_squared : (a : ℕ) (power : Power) → Low (a * ONE) power → Low (a * a * ONE) (squared 0 power)
unfolding squared
low_squared a power h = low_halved (a * a * ONE) whole (record {
  within = subst (λ n. n * quotient ≤ a * a * ONE) (sym (doubled power.exponent)) (low_square (2 ^ power.exponent) power.significand quotient a ONE (omega arith) (let k : quotient * ONE ≤ power.significand * power.significand + 0 * (ONE - 1) = div-mul-le_self (power.significand * power.significand + 0 * (ONE - 1)) ONE in omega arith) h.within);
  some = le-div ONE (power.significand * power.significand + 0 * (ONE - 1)) ONE (omega arith) (let k : ONE * ONE ≤ power.significand * power.significand = mul-le-mul h.some h.some in omega arith);
})
  where
    quotient : ℕ
    quotient = (power.significand * power.significand + 0 * (ONE - 1)) / ONE

    whole : Power
    whole = record { significand = quotient; exponent = 2 * power.exponent }

-- the power is no less than the number in question
abbrev pub High : ℕ → Power → Type 0
High bound power = bound ≤ 2 ^ power.exponent * power.significand

-- nor is it once halved and rounded up
pub high_halved : (bound : ℕ) (power : Power) → High bound power → High bound (halved 1 power)
unfolding halved
high_halved bound power h = split (nat_le (2 * ONE) power.significand)
  where
    half : (e s h' bound p : ℕ) → p ≡ 2 * e → s ≤ h' * 2 → bound ≤ e * s → bound ≤ p * h'
    half e s h' bound p is le within = (let a : e * s ≤ e * (h' * 2) = mul-le-mul_left e le in rw is (omega arith))

    split : (b : Bool) → bound ≤ 2 ^ (cond b (let q : Power = record { significand = (power.significand + 1) / 2; exponent = power.exponent + 1 } in q) power).exponent
        * (cond b (let q : Power = record { significand = (power.significand + 1) / 2; exponent = power.exponent + 1 } in q) power).significand
    split false = h
    split true = half (2 ^ power.exponent) power.significand ((power.significand + 1) / 2) bound (2 ^ (power.exponent + 1)) (twice power.exponent) (omega arith) h

-- a quotient that is rounded up
up : (n d : ℕ) → 1 ≤ d → n ≤ (n + (d - 1)) / d * d
up n d some =
    let a : (n + (d - 1)) % d < d = mod-lt (n + (d - 1)) {m = d} some in
    let b : (n + (d - 1)) % d ≡ n + (d - 1) - (n + (d - 1)) / d * d = mod-eq-sub-div-mul (n + (d - 1)) d in
    omega arith

-- a quotient of a square, rounded up
high_square : (t s q a one : ℕ) → 1 ≤ one → s * s ≤ q * one → a * one ≤ t * s → a * a * one ≤ t * t * q
high_square t s q a one some le within =
    let x : t * t * (s * s) ≤ t * t * (q * one) = mul-le-mul_left (t * t) le in
    let y : a * one * (a * one) ≤ t * s * (t * s) = mul-le-mul within within in
    let z : a * a * one * one ≤ t * t * q * one = omega arith in
    le_of_mul-le-mul_right z some

-- squares are no less than the square
pub high_squared : (a : ℕ) (power : Power) → High (a * ONE) power → High (a * a * ONE) (squared 1 power)
unfolding squared
high_squared a power h = high_halved (a * a * ONE) whole
    (subst (λ n. a * a * ONE ≤ n * quotient) (sym (doubled power.exponent))
    (high_square (2 ^ power.exponent) power.significand quotient a ONE (omega arith) (let k : power.significand * power.significand ≤ (power.significand * power.significand + (ONE - 1)) / ONE * ONE = up (power.significand * power.significand) ONE (omega arith) in
    let e : power.significand * power.significand + 1 * (ONE - 1) ≡ power.significand * power.significand + (ONE - 1) = omega arith in
    subst (λ n. power.significand * power.significand ≤ n / ONE * ONE) (sym e) k) h))
  where
    quotient : ℕ
    quotient = (power.significand * power.significand + 1 * (ONE - 1)) / ONE

    whole : Power
    whole = record { significand = quotient; exponent = 2 * power.exponent }
