-- Every quotient has a fraction.
use Rattle.std.proofs.Common.{ℕ, ℤ, pos, suc, ◌<◌, ◌*◌, ◌/◌, refl, arith, unsigned_abs}
use Rattle.std.specs.Int.{IsGcd}
use Rattle.std.specs.Int.RustNames.{int_div}
use Rattle.std.proofs.Math.Nat.{div-mul_cancel, one-dvd}
use Rattle.split_frac.proofs.Coprime.{common}
use Rattle.split_frac.proofs.Lowest.{quotients_lowest, quotients_value}
use Rattle.split_frac.specs.Frac.{HasValue}
use Rattle.split_frac.specs.declared.frac.Frac.{Frac}

-- two numbers have a greatest common divisor
some_gcd : (a b : ℕ) → (g : ℕ) × IsGcd a b g
some_gcd a b = let found = common (suc b) a b 1 1 (omega arith) (one-dvd (a * 1)) (one-dvd (b * 1)) in (found.0, found.1)

-- it is above 0 where one of them is
above : (a b g : ℕ) → 0 < b → IsGcd a b g → 0 < g
above a b g some h = let whole = div-mul_cancel g h.1 in grind arith

-- both parts of a quotient, divided by it, make a fraction of the same value
pub some_fraction : (num : ℤ) (den : ℕ) → 0 < den → (a : Frac) × HasValue a num den
some_fraction num den some =
    let gcd = some_gcd (unsigned_abs num) den in
    let divisor = gcd.0 in
    let both = quotients_lowest num (int_div num (pos divisor)) (unsigned_abs num) den divisor refl refl some (above (unsigned_abs num) den divisor some gcd.1) gcd.1 in (
      record { num = int_div num (pos divisor); den = den / divisor; positive = both.0; lowest = both.1 },
      quotients_value num (int_div num (pos divisor)) (unsigned_abs num) den divisor refl refl gcd.1,
    )
