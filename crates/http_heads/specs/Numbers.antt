-- How the fields of HTTP heads write whole numbers: in decimal, with digits only.
use Rattle.std.specs.Prelude.{ℕ, nat_lt, Bool, ◌&&◌, List, length, min, Option, Some, None, if◌then◌else◌}
use Rattle.std.specs.List.{list_all}
use Rattle.std.specs.Char.{is_ascii_digit}
use Rattle.std.specs.Str.Parse.{digits_value}

-- the bytes are one or more digits
abbrev pub is_number : List ℕ → Bool
is_number value = nat_lt 0 (length value) && list_all is_ascii_digit value

-- the number that they write, or `most` if it is greater; none if they aren't a number
abbrev pub number_in : ℕ → List ℕ → Option ℕ
number_in most value = if is_number value then Some (min (digits_value 10 value) most) else None
