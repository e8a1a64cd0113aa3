-- What reports and lines on players are made of: the number, text or name at a place of a list, and lines one after another.
use Rattle.std.specs.Prelude.{ℕ, ◌-◌, List, [], flat_map, slice_index, slice_index_or}
use Rattle.std.specs.List.{range_with_len}
use Rattle.split_frac.specs.Texts.{numbered_name}

-- the number at a place of a list; places count from 1
abbrev pub number_at : List ℕ → ℕ → ℕ
number_at numbers place = slice_index numbers (place - 1)

-- the text at a place of a list; places count from 1
abbrev pub text_at : List (List ℕ) → ℕ → List ℕ
text_at texts place = slice_index_or texts (place - 1) []

-- the number of a person or a thing, counted from 1, and the name
abbrev pub named_at : List (List ℕ) → ℕ → List ℕ
named_at names number = numbered_name number (text_at names number)

-- the lines numbered from 1 to n, one after another
abbrev pub lines_to : ℕ → (ℕ → List ℕ) → List ℕ
lines_to n text = flat_map text (range_with_len 1 n)
