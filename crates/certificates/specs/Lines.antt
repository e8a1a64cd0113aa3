-- Lines of canonical certificates, one by one.
use Rattle.std.specs.Prelude.{ℕ, List, length}
use Rattle.bid_rules.specs.Fractions.{Fraction}
use Rattle.cert_reader.specs.declared.forms.Word.{Word}
use Rattle.cert_reader.specs.Forms.{numbers_of}
use Rattle.cert_reader.specs.Text.{Numbers, said_text}

-- the bytes of a line with this word and these numbers
abbrev pub number_line : Word → List Fraction → List ℕ
number_line word numbers = said_text (numbers_of word (length numbers)) (Numbers numbers)
