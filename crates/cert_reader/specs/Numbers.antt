-- The numbers that a certificate text can hold.
use Rattle.std.specs.Prelude.{◌≡◌, ℕ, ℤ, ◌^◌, ◌<◌, ◌≤◌, List, All, Bool, IsTrue, unsigned_abs, sum}
use Rattle.std.specs.Int.{IsGcd}
use Rattle.bid_rules.specs.Fractions.{Fraction}
use Rattle.split_frac.specs.declared.frac.Frac.{Frac}
use Rattle.cert_reader.specs.declared.limits.TheConstants.{MOST_PRINTED_DENOMINATOR, MOST_DIGITS}
use Rattle.cert_reader.specs.Sets.{set_sizes}

-- the number has at most 25 digits
abbrev pub IsSmall : ℤ → Type 0
IsSmall number = unsigned_abs number < 10 ^ MOST_DIGITS

-- each number has at most 25 digits
abbrev pub AreSmall : List ℤ → Type 0
AreSmall numbers = All IsSmall numbers

-- each fraction has a numerator of at most 25 digits and a denominator of at most 4294967295
abbrev pub AreShort : List Frac → Type 0
AreShort fractions = All (λ fraction. IsSmall fraction.num × (fraction.den ≤ MOST_PRINTED_DENOMINATOR)) fractions

-- a text can hold this number: a whole number, written over 1, or, if fractions may come, a fraction in lowest terms
pub record IsNumber (whole : Bool) (number : Fraction) : Type 0 where
  pub size : IsSmall number.0
  pub positive : 1 ≤ number.1
  pub small : number.1 ≤ MOST_PRINTED_DENOMINATOR
  pub lowest : IsGcd (unsigned_abs number.0) number.1 1
  pub is_whole : IsTrue whole → number.1 ≡ 1

-- how many costs the lines of all sets of n riders have together
abbrev pub table_size : ℕ → ℕ
table_size n = sum (set_sizes n)
