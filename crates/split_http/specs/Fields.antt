-- What the fields of a request's head say about its body and its connection, such as the body's length or the option `close`.
use Rattle.std.specs.Prelude.{ℕ, ◌+◌, ◌==◌, nat_lt, Bool, ◌&&◌, List, option_map, unwrap_or, codes, if◌then◌else◌}
use Rattle.std.specs.List.{list_any, slice_split}
use Rattle.std.specs.Str.{str_eq_ignore_ascii_case}
use Rattle.httparse.specs.Grammar.{trim_ows}
use Rattle.http_heads.specs.Fields.{Pair, count_of, is_named, value_of}
use Rattle.http_heads.specs.Numbers.{number_in}
use Rattle.split_http.specs.declared.fields.Stated.{Stated}
use Rattle.split_http.specs.declared.fields.Stated.TheVariants.{Absent, Bad, Bytes}
use Rattle.split_http.specs.declared.limits.TheConstants.{MAX_BODY}

-- the field has that name and that value, in any letter case
abbrev pub is_named_and : List ℕ → List ℕ → Pair → Bool
is_named_and name value field = is_named name field && str_eq_ignore_ascii_case field.1 value

-- some field has that name and that value
abbrev pub has_value : List ℕ → List ℕ → List Pair → Bool
has_value name value fields = list_any (is_named_and name value) fields

-- the option is `close`, in any letter case, with white space around it or none
abbrev pub is_close : List ℕ → Bool
is_close option = str_eq_ignore_ascii_case (trim_ows option) (codes "close")

-- one of the options between the commas, which are 44, is `close`
abbrev pub lists_close : List ℕ → Bool
lists_close value = list_any is_close (slice_split (λ b. b == 44) value)

-- the field has that name and lists the option `close`
abbrev pub is_listing : List ℕ → Pair → Bool
is_listing name field = is_named name field && lists_close field.1

-- some field of that name lists it
abbrev pub has_option : List ℕ → List Pair → Bool
has_option name fields = list_any (is_listing name) fields

-- the length that a value gives; one past the limit counts as one more than it
abbrev pub number_of : List ℕ → Stated
number_of value = unwrap_or (option_map Bytes (number_in (MAX_BODY + 1) value)) Bad

-- the length that a head gives: two fields or more tell none
abbrev pub stated_of : List Pair → Stated
stated_of fields =
    if nat_lt 1 (count_of (codes "content-length") fields) then Bad
    else unwrap_or (option_map number_of (value_of (codes "content-length") fields)) Absent
