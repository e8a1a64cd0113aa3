-- The value, sum, difference, order, ranges and text of fractions in lowest terms.
use Rattle.std.specs.Prelude.{◌≡◌, ℕ, ℤ, pos, ◌+ℤ◌, ◌-ℤ◌, ◌*ℤ◌, ◌<ℤ◌, ◌≤ℤ◌, ◌*◌, ◌≤◌, unsigned_abs, List, ◌∷◌, ◌++◌, ◌==◌, if◌then◌else◌}
use Rattle.std.specs.Fmt.{decimal, signed_decimal}
use Rattle.std.specs.declared.cmp.Ordering.{Ordering}
use Rattle.std.specs.Ordering.{int_cmp}
use Rattle.split_frac.specs.declared.limits.TheConstants.{MOST_DENOMINATOR, MOST_NUMERATOR}
use Rattle.split_frac.specs.declared.frac.Frac.{Frac}

-- the fraction as a pair of its numerator and its denominator
abbrev pub fraction_of : Frac → ℤ × ℕ
fraction_of a = (a.num, a.den)

-- the fraction equals `num / den`, for a `den` above 0: their cross products are equal
abbrev pub HasValue : Frac → ℤ → ℕ → Type 0
HasValue a num den = a.num *ℤ pos den ≡ num *ℤ pos a.den

-- the third fraction is the sum of the first two
abbrev pub IsSum : Frac → Frac → Frac → Type 0
IsSum a b c = HasValue c (a.num *ℤ pos b.den +ℤ b.num *ℤ pos a.den) (a.den * b.den)

-- the third fraction is the first less the second
abbrev pub IsDifference : Frac → Frac → Frac → Type 0
IsDifference a b c = HasValue c (a.num *ℤ pos b.den -ℤ b.num *ℤ pos a.den) (a.den * b.den)

-- the number is the greatest whole number that is not above the fraction
abbrev pub IsFloor : Frac → ℤ → Type 0
IsFloor a whole = ((whole *ℤ pos a.den) ≤ℤ a.num) × (a.num <ℤ ((whole +ℤ pos 1) *ℤ pos a.den))

-- the numerator is no further from 0 than the greatest numerator, and the denominator is at most the greatest denominator
abbrev pub IsWithinLimits : Frac → Type 0
IsWithinLimits a = (unsigned_abs a.num ≤ MOST_NUMERATOR) × (a.den ≤ MOST_DENOMINATOR)

-- the order of two fractions by their values
abbrev pub frac_cmp : Frac → Frac → Ordering
frac_cmp a b = int_cmp (a.num *ℤ pos b.den) (b.num *ℤ pos a.den)

-- a fraction in decimal: the numerator and, unless the denominator is 1, a slash (47) and the denominator
unfoldable pub pair_text : ℤ × ℕ → List ℕ
pair_text number = if number.1 == 1 then signed_decimal number.0 else signed_decimal number.0 ++ 47 ∷ decimal number.1

-- a fraction in lowest terms, in decimal
abbrev pub frac_text : Frac → List ℕ
frac_text a = pair_text (fraction_of a)
