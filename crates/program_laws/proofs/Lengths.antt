-- The length that a host tells of a body is read as it is.
use Rattle.std.proofs.Common.{◌≡◌, ℕ, ◌+◌, ◌%◌, ◌<◌, ◌≤◌, ◌^◌, nat_lt, nat_le, true, false, List, [], ◌∷◌, length, reverse, Some, decimal, refl, ap, ◌∙◌, arith, length-append}
use Rattle.std.proofs.lemmas.Bool.{and_parts, and_from}
use Rattle.std.proofs.lemmas.Bool.Decides.{nat_tests}
use Rattle.std.proofs.lemmas.Fmt.{decimal_by_steps, decimal_is_IsNumeral, length-decimal-le}
use Rattle.std.proofs.lemmas.List.Folds.{list_all-append}
use Rattle.std.proofs.lemmas.List.Sums.{AllPass-from_list_all, list_all-from_AllPass}
use Rattle.std.specs.Char.{is_ascii_digit}
use Rattle.std.specs.List.{list_all}
use Rattle.cert_reader.specs.declared.limits.TheConstants.{MOST_BYTES}
use Rattle.httparse.specs.Grammar.{is_ows, is_value_byte, skip_ows, trim_ows}
use Rattle.httparse.proofs.TrimLemmas.{AllPass-reverse, trim_ows_space}
use Rattle.remote_check.specs.Fields.{is_length, length_in}

digit_byte : (d : ℕ) → d < 10 → is_ascii_digit (48 + d) ≡ true
digit_byte d small = grind (arith, nat_tests)

-- a number is written in digits
pub decimal_digits : (n : ℕ) → n < 2 ^ 64 → list_all is_ascii_digit (decimal n) ≡ true
decimal_digits =
    decimal_by_steps (λ n ds. list_all is_ascii_digit ds ≡ true)
    (λ n low. and_from _ _ (digit_byte n low) refl)
    (λ n ds high h. list_all-append is_ascii_digit ds ((48 + n % 10) ∷ []) ∙ and_from _ _ h (and_from _ _ (digit_byte (n % 10) (omega arith)) refl))

digit_value_byte : (b : ℕ) → is_ascii_digit b ≡ true → is_value_byte b ≡ true
digit_value_byte b digit = grind (arith, nat_tests)

-- digits may be in a field's value
pub digits_pass : (bytes : List ℕ) → list_all is_ascii_digit bytes ≡ true → list_all is_value_byte bytes ≡ true
digits_pass [] e = refl
digits_pass (b ∷ bytes) e =
    let both = and_parts (is_ascii_digit b) (list_all is_ascii_digit bytes) e in
    and_from _ _ (digit_value_byte b both.0) (digits_pass bytes both.1)

no_space : (b : ℕ) → is_ascii_digit b ≡ true → is_ows b ≡ false
no_space b digit = grind (arith, nat_tests)

digits_skip : (bytes : List ℕ) → list_all is_ascii_digit bytes ≡ true → skip_ows bytes ≡ bytes
digits_skip [] e = refl
digits_skip (b ∷ bytes) e = rw (no_space b (and_parts (is_ascii_digit b) (list_all is_ascii_digit bytes) e).0)

reverse_digits : (bytes : List ℕ) → list_all is_ascii_digit bytes ≡ true → list_all is_ascii_digit (reverse bytes) ≡ true
reverse_digits bytes e = list_all-from_AllPass is_ascii_digit (reverse bytes) (AllPass-reverse is_ascii_digit bytes (AllPass-from_list_all is_ascii_digit bytes e))

trimmed : (bytes : List ℕ) → list_all is_ascii_digit bytes ≡ true → trim_ows (32 ∷ bytes) ≡ bytes
trimmed bytes e = trim_ows_space bytes (digits_skip bytes e) (digits_skip (reverse bytes) (reverse_digits bytes e))

some_digits : (n : ℕ) → n < 2 ^ 64 → 0 < length (decimal n)
some_digits = decimal_by_steps (λ n ds. 0 < length ds) (λ n low. omega arith) (λ n ds high h. omega (arith, length-append ds ((48 + n % 10) ∷ [])))

is_length_told : (n : ℕ) → n ≤ MOST_BYTES → is_length (decimal n) ≡ true
is_length_told n most =
    let some : 0 < length (decimal n) = some_digits n (omega arith) in
    let few : length (decimal n) ≤ 10 = length-decimal-le 10 n (omega arith) (omega arith) (omega arith) in
    let first : nat_lt 0 (length (decimal n)) ≡ true = grind (arith, nat_tests) in
    let second : nat_le (length (decimal n)) 10 ≡ true = grind (arith, nat_tests) in
    and_from _ _ first (and_from _ _ second (decimal_digits n (omega arith)))

-- the number is read back after a space
pub length_told : (n : ℕ) → n ≤ MOST_BYTES → length_in (Some (trim_ows (32 ∷ decimal n))) ≡ Some n
length_told n most = rw (trimmed (decimal n) (decimal_digits n (omega arith)), is_length_told n most) (ap Some (decimal_is_IsNumeral n (omega arith)).1)
