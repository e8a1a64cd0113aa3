-- Why the reading of a certificate or of the text of adjusted winner ends without one: reasons for a reader that takes no memory, and for one that keeps what it reads.
use Rattle.std.specs.Prelude.{◌≡◌, ◌⊎◌, Result, Ok, Err}
use Rattle.cert_reader.specs.declared.ends.ReadEnd.{ReadEnd}
use Rattle.cert_reader.specs.declared.ends.ReadEnd.TheVariants as reads
use Rattle.cert_reader.specs.declared.ends.TextEnd.{TextEnd}
use Rattle.cert_reader.specs.declared.ends.TextEnd.TheVariants as texts

-- the same reason, among those of a reader that keeps what it reads
abbrev pub read_end : TextEnd → ReadEnd
read_end (texts.NotText line) = reads.NotText line
read_end texts.ReadFault = reads.ReadFault
read_end texts.TooLong = reads.TooLong

-- the same answer, with its reason among those of a reader that keeps what it reads
abbrev pub read_answer : {T : Type 0} → Result T TextEnd → Result T ReadEnd
read_answer (Ok value) = Ok value
read_answer (Err end) = Err (read_end end)

-- the answer is one that a reader which keeps nothing can give, and this holds of it; so memory did not run out
abbrev pub OfAnswer : {T : Type 0} → (Result T TextEnd → Type 0) → Result T ReadEnd → Type 0
OfAnswer {T} says result = (answer : Result T TextEnd) × (result ≡ read_answer answer) × says answer

-- the answer is one that a reader which keeps nothing can give, and this holds of it; or memory ran out, and the
-- other holds
abbrev pub OfReading : {T : Type 0} → (Result T TextEnd → Type 0) → Type 0 → Result T ReadEnd → Type 0
OfReading {T} says wanted result = OfAnswer says result ⊎ ((result ≡ Err reads.NoMemory) × wanted)
