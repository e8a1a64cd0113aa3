-- The length of a body, as the fields of a response's head tell it.
use Rattle.std.specs.Prelude.{ℕ, ◌==◌, nat_lt, nat_le, Bool, ◌&&◌, List, length, Option, Some, None, codes, if◌then◌else◌}
use Rattle.std.specs.List.{list_all}
use Rattle.std.specs.Char.{is_ascii_digit}
use Rattle.std.specs.Str.Parse.{digits_value}
use Rattle.http_heads.specs.Fields.{Pair, count_of, value_of}
use Rattle.remote_check.specs.declared.limits.TheConstants.{MAX_LENGTH_DIGITS}

-- the value is one to ten digits
abbrev pub is_length : List ℕ → Bool
is_length value = nat_lt 0 (length value) && (nat_le (length value) MAX_LENGTH_DIGITS && list_all is_ascii_digit value)

-- the number that such a value writes
abbrev pub length_in : Option (List ℕ) → Option ℕ
length_in None = None
length_in (Some value) = if is_length value then Some (digits_value 10 value) else None

-- the length of the body that the fields tell: none if there is a Transfer-Encoding, or not exactly one Content-Length of one to ten digits
abbrev pub told_length : List Pair → Option ℕ
told_length fields =
    if nat_lt 0 (count_of (codes "transfer-encoding") fields) then None
    else (if count_of (codes "content-length") fields == 1 then length_in (value_of (codes "content-length") fields) else None)
