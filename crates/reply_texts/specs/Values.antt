-- The parts of replies as JSON values.
use Rattle.std.specs.Prelude.{ℕ, ℤ, List, map}
use Rattle.serde_json.specs.Data.{Data, number, unsigned, string, array}
use Rattle.serde_json.specs.Find.{of_integer}
use Rattle.serde_json.specs.View.{items_of}
use Rattle.split_frac.specs.declared.frac.Frac.{Frac}
use Rattle.split_frac.specs.Frac.{frac_text}

-- a list of values of one kind as JSON
abbrev pub list_by : {A : Type 0} → (A → Data) → List A → Data
list_by f xs = array (items_of (map f xs))

-- a number as JSON
abbrev pub of_number : ℕ → Data
of_number n = number (unsigned n)

-- a number of cents, which may be below 0, as JSON
abbrev pub of_cents : ℤ → Data
of_cents cents = number (of_integer cents)

-- a text as JSON
abbrev pub of_text : List ℕ → Data
of_text text = string text

-- a fraction as JSON: the text of it
abbrev pub of_frac : Frac → Data
of_frac fraction = of_text (frac_text fraction)
