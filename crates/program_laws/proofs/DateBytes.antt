-- The text of a date may be in a field, and is short.
use Rattle.std.proofs.Common.{◌≡◌, ℕ, zero, suc, ◌+◌, ◌-◌, ◌/◌, ◌%◌, ◌<◌, ◌≤◌, nat_le, Bool, true, false, ◌&&◌, List, [], ◌∷◌, ◌++◌, length, get_or, codes, cond, refl, ◌∙◌, arith, length-append}
use Rattle.std.proofs.lemmas.Bool.{and_parts, and_from}
use Rattle.std.proofs.lemmas.Bool.Decides.{nat_tests}
use Rattle.std.proofs.lemmas.List.Folds.{list_all-append}
use Rattle.std.specs.List.{list_all}
use Rattle.httparse.specs.Grammar.{is_value_byte}
use Rattle.httpdate.specs.Calendar.{days_in_month}
use Rattle.httpdate.specs.Date.{date_text}
use Rattle.httpdate.specs.declared.date.HttpDate.{HttpDate}
use Rattle.httpdate.specs.Text.{day_name, month_name, two_digits}

-- the bytes may be in a field's value, and are at most so many
pub record FitsIn (most : ℕ) (bytes : List ℕ) : Type 0 where
  pub all : list_all is_value_byte bytes ≡ true
  pub short : length bytes ≤ most

-- the same as a test
abbrev fits_in : ℕ → List ℕ → Bool
fits_in most bytes = list_all is_value_byte bytes && nat_le (length bytes) most

tested : (most : ℕ) (bytes : List ℕ) → fits_in most bytes ≡ true → FitsIn most bytes
tested most bytes e =
    let both : (list_all is_value_byte bytes ≡ true) × (nat_le (length bytes) most ≡ true) = and_parts _ _ e in
    let size : nat_le (length bytes) most ≡ true = both.1 in
    record { all = both.0; short = grind (arith, nat_tests) }

joined_fit : {n m : ℕ} {xs ys : List ℕ} → FitsIn n xs → FitsIn m ys → FitsIn (n + m) (xs ++ ys)
joined_fit {n} {m} {xs} {ys} p q = record {
  all = list_all-append is_value_byte xs ys ∙ and_from _ _ p.all q.all;
  short = omega (arith, p.short, q.short, length-append xs ys);
}

-- a visible byte of ASCII may be there
value_byte : (b : ℕ) → 32 ≤ b → b < 127 → is_value_byte b ≡ true
value_byte b low high = grind (arith, nat_tests)

two_fit : (n : ℕ) → n < 100 → FitsIn 2 (two_digits n)
two_fit n small = record {
  all = and_from _ _ (value_byte (48 + n / 10) (omega arith) (omega arith)) (and_from _ _ (value_byte (48 + n % 10) (omega arith) (omega arith)) refl);
  short = omega arith;
}

-- a text of a table fits where all of them do
name_fits : (names : List (List ℕ)) (i : ℕ) → list_all (fits_in 3) names ≡ true → FitsIn 3 (get_or names i [])
name_fits [] i e = record { all = refl; short = omega arith }
name_fits (name ∷ names) zero e = tested 3 name (and_parts (fits_in 3 name) (list_all (fits_in 3) names) e).0
name_fits (name ∷ names) (suc i) e = name_fits names i (and_parts (fits_in 3 name) (list_all (fits_in 3) names) e).1

day_fits : (day : ℕ) → FitsIn 3 (day_name day)
day_fits day = name_fits (codes "Mon" ∷ codes "Tue" ∷ codes "Wed" ∷ codes "Thu" ∷ codes "Fri" ∷ codes "Sat" ∷ codes "Sun" ∷ []) (day - 1) refl

month_fits : (month : ℕ) → FitsIn 3 (month_name month)
month_fits month =
    name_fits
    (codes "Jan" ∷ codes "Feb" ∷ codes "Mar" ∷ codes "Apr" ∷ codes "May" ∷ codes "Jun" ∷ codes "Jul" ∷ codes "Aug" ∷ codes "Sep" ∷ codes "Oct" ∷ codes "Nov" ∷ codes "Dec" ∷ [])
    (month - 1) refl

month_days : (leap a b : Bool) → cond a (cond leap 29 28) (cond b 30 31) ≤ 31
month_days leap true b = by leap
  where
    by : (v : Bool) → cond v 29 28 ≤ 31
    by true = omega arith
    by false = omega arith
month_days leap false true = omega arith
month_days leap false false = omega arith

-- the text of a date has at most 29 bytes, all of which may be in a field's value
pub date_fits : (date : HttpDate) → FitsIn 29 (date_text date)
date_fits date =
    let parts = date.parts in
    let days : days_in_month parts.year parts.mon ≤ 31 = month_days _ _ _ in
    let day : parts.day < 100 = omega (arith, date.civil.2, days) in
    let century : parts.year / 100 < 100 = omega (arith, date.civil.0) in
    let year : parts.year % 100 < 100 = omega arith in
    let space = tested 1 (codes " ") refl in
    let colon = tested 1 (codes ":") refl in
    let weekday = joined_fit (day_fits parts.wday) (tested 2 (codes ", ") refl) in
    let to_day = joined_fit (joined_fit weekday (two_fit parts.day day)) space in
    let to_month = joined_fit (joined_fit to_day (month_fits parts.mon)) space in
    let to_year = joined_fit (joined_fit to_month (joined_fit (two_fit (parts.year / 100) century) (two_fit (parts.year % 100) year))) space in
    let hour = two_fit parts.hour (omega (arith, date.time)) in
    let minute = two_fit parts.min (omega (arith, date.time)) in
    let second = two_fit parts.sec (omega (arith, date.time)) in
    joined_fit (joined_fit to_year (joined_fit (joined_fit (joined_fit (joined_fit hour colon) minute) colon) second)) (tested 4 (codes " GMT") refl)
