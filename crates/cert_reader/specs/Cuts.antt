-- How the bytes of a certificate are cut as it is read: into lines without their LF, and before the first byte of some value.
use Rattle.std.specs.Prelude.{◌≡◌, ◌≢◌, ℕ, ◌<◌, ◌≤◌, List, ◌++◌, length, slice_index}
use Rattle.bid_rules.specs.Fractions.{Fraction}
use Rattle.split_frac.specs.Texts.{numbers_text}
use Rattle.cert_reader.specs.declared.forms.LineForm.{LineForm}
use Rattle.cert_reader.specs.Text.{HasNumbers}
use Rattle.cert_reader.specs.Words.{word_text}

-- this many bytes come before the first byte that is `stop`; if no byte is, they are all of the bytes
pub record IsFront (stop : ℕ) (bytes : List ℕ) (count : ℕ) : Type 0 where
  pub within : count ≤ length bytes
  pub before : (k : ℕ) → k < count → slice_index bytes k ≢ stop
  pub found : count < length bytes → slice_index bytes count ≡ stop

-- the text of the line of this form with these numbers, without its LF
abbrev pub IsLine : LineForm → List Fraction → List ℕ → Type 0
IsLine form numbers line = HasNumbers form numbers × (line ≡ word_text form.word ++ numbers_text numbers)
