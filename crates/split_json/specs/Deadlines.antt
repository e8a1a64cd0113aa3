-- Reading JSON: which second the text of a deadline stands for.
use Rattle.std.specs.Prelude.{ℕ, ◌/◌, ℤ, pos, negsuc, List, Option, Some, None, Result, Ok, Err}
use Rattle.jiff.specs.Words.{Error, parse_timestamp}

-- the whole seconds of a moment, given in nanoseconds since 1970, unless it is before 1970
abbrev pub second_of : ℤ → Option ℕ
second_of (pos nanoseconds) = Some (nanoseconds / 1000000000)
second_of (negsuc n) = None

-- the whole seconds of a moment that was read, if one was
abbrev pub second_if_read : Result ℤ Error → Option ℕ
second_if_read (Ok instant) = second_of instant
second_if_read (Err e) = None

-- the second of a text that `jiff` reads as a timestamp, without the fraction of the second
abbrev pub deadline_of : List ℕ → Option ℕ
deadline_of text = second_if_read (parse_timestamp text)
