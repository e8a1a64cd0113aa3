-- The fields of a head, found by name.
use Rattle.std.specs.Prelude.{ℕ, Bool, List, map, Option, count_by, find, option_map}
use Rattle.std.specs.Str.{str_eq_ignore_ascii_case}
use Rattle.httparse.specs.Spans.{header_bytes}
use Rattle.httparse.specs.declared.spans.HeaderSpan.{HeaderSpan}

-- a field's name and its value, without white space around it
abbrev pub Pair : Type 0
Pair = List ℕ × List ℕ

-- the names and values that the spans cover
abbrev pub fields_at : List ℕ → List HeaderSpan → List Pair
fields_at bytes spans = map (header_bytes bytes) spans

-- the field has that name, in any letter case
abbrev pub is_named : List ℕ → Pair → Bool
is_named name field = str_eq_ignore_ascii_case field.0 name

-- how many fields have that name
abbrev pub count_of : List ℕ → List Pair → ℕ
count_of name fields = count_by (is_named name) fields

-- the value of the first field of that name
abbrev pub value_of : List ℕ → List Pair → Option (List ℕ)
value_of name fields = option_map (λ (field : Pair). field.1) (find (is_named name) fields)
