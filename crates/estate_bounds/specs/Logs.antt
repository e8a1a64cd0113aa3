-- Binary logarithms in fixed point. A power is squared again and again, its significand rounded down, or up; its exponent is then a logarithm of the number.
use Rattle.std.specs.Prelude.{ℕ, suc, zero, ◌+◌, ◌-◌, ◌*◌, ◌/◌, cond, nat_le, nat_lt}
use Rattle.estate_bounds.specs.declared.limits.TheConstants.{LOG_BITS, ONE, SQUARINGS}
use Rattle.estate_bounds.specs.declared.logs.Power.{Power}

-- the power with half the significand and one more in the exponent, if the significand is 2 or more; rounded down, or up if the rounding is 1
unfoldable pub halved : ℕ → Power → Power
halved rounding power = cond (nat_le (2 * ONE) power.significand) (record { significand = (power.significand + rounding) / 2; exponent = power.exponent + 1 }) power

-- the square of the power
unfoldable pub squared : ℕ → Power → Power
squared rounding power = halved rounding (record { significand = (power.significand * power.significand + rounding * (ONE - 1)) / ONE; exponent = 2 * power.exponent })

-- the number as a power whose significand is below 2
unfoldable pub as_power : ℕ → ℕ → ℕ → Power
as_power rounding number zero = record { significand = number * ONE; exponent = 0 }
as_power rounding number (suc n) = halved rounding (as_power rounding number n)

-- the number squared so many times
unfoldable pub power_after : ℕ → ℕ → ℕ → Power
power_after rounding number zero = as_power rounding number LOG_BITS
power_after rounding number (suc n) = squared rounding (power_after rounding number n)

-- the binary logarithm of the number, times 2 to the number of squarings, rounded down
unfoldable pub log_down : ℕ → ℕ
log_down number = (power_after 0 number SQUARINGS).exponent

-- the same, rounded up
unfoldable pub log_up : ℕ → ℕ
log_up number = (power_after 1 number SQUARINGS).exponent + cond (nat_lt ONE (power_after 1 number SQUARINGS).significand) 1 0
