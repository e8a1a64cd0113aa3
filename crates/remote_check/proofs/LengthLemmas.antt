-- The length that a Content-Length tells, from the number that it writes.
use Rattle.std.proofs.Common.{◌≡◌, ℕ, ◌≤◌, nat_lt, nat_le, Bool, true, false, ◌&&◌, List, length, min, Some, None, if◌then◌else◌, refl, arith}
use Rattle.std.proofs.lemmas.Bool.Decides.{nat_tests}
use Rattle.std.specs.List.{list_all}
use Rattle.std.specs.Char.{is_ascii_digit}
use Rattle.std.specs.Str.Parse.{digits_value}
use Rattle.http_heads.specs.Numbers.{number_in}
use Rattle.remote_check.specs.declared.limits.TheConstants.{MAX_LENGTH_DIGITS}
use Rattle.remote_check.specs.Fields.{length_in}

-- a number of few digits is the length
pub length_some : (value : List ℕ) (most number : ℕ) → length value ≤ MAX_LENGTH_DIGITS → Some number ≡ number_in most value
    → (count : ℕ) × (length_in (Some value) ≡ Some count) × (number ≡ min count most)
length_some value most number few is =
    let test : nat_le (length value) MAX_LENGTH_DIGITS ≡ true = grind (arith, nat_tests, few) in
    rw test (by (nat_lt 0 (length value)) (list_all is_ascii_digit value) is)
  where
    by : (some digits : Bool) → Some number ≡ (if some && digits then Some (min (digits_value 10 value) most) else None)
        → (count : ℕ) × ((if some && (true && digits) then Some (digits_value 10 value) else None) ≡ Some count) × (number ≡ min count most)
    by true true e = (digits_value 10 value, refl, cc)
    by true false e = absurd cc
    by false digits e = absurd cc

-- what is no number is no length
pub length_none : (value : List ℕ) (most : ℕ) → None ≡ number_in most value → length_in (Some value) ≡ None
length_none value most is = by (nat_lt 0 (length value)) (nat_le (length value) MAX_LENGTH_DIGITS) (list_all is_ascii_digit value) is
  where
    by : (some few digits : Bool) → None ≡ (if some && digits then Some (min (digits_value 10 value) most) else None)
        → (if some && (few && digits) then Some (digits_value 10 value) else None) ≡ None
    by true true true e = absurd cc
    by true true false e = refl
    by true false digits e = refl
    by false few digits e = refl
