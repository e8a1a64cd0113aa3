-- One line taken from a source.
use Rattle.std.specs.Prelude.{◌≡◌, ℕ, ◌+◌, ◌<◌, List, [], length, map, Option, Result, Ok, Err}
use Rattle.std.specs.Io.KnownBytes.{IsAtEnd}
use Rattle.split_frac.specs.Frac.{fraction_of}
use Rattle.cert_reader.specs.declared.ends.TextEnd.{TextEnd}
use Rattle.cert_reader.specs.declared.ends.TextEnd.TheVariants.{NotText, ReadFault, TooLong}
use Rattle.cert_reader.specs.declared.forms.Counts.{Counts}
use Rattle.cert_reader.specs.Forms.{AreInRange, forms_of}
use Rattle.cert_reader.specs.Gathered.{Gathered}
use Rattle.cert_reader.specs.Order.{AgreeUpTo, HasNoLine, form_in}
use Rattle.cert_reader.specs.Stream.{Hands, Held, IsStopped}
use Rattle.cert_reader.specs.Text.{CanSay, Numbers, said_text}

-- all bytes were given out to the end, and this is so of them, which makes the line the first broken one; or the reading stopped before the end
abbrev pub IsRefused : Held → Held → Option (List ℕ) → Option (List ℕ) → ℕ → (List ℕ → Type 0) → TextEnd → Type 0
IsRefused before after left left_after line none (NotText broken) = (broken ≡ line) × ((text : List ℕ) × Hands before after left left_after text × (after.ahead ≡ []) × IsAtEnd left_after × none text)
IsRefused before after left left_after line none TooLong = IsStopped before left left_after TooLong
IsRefused before after left left_after line none ReadFault = IsStopped before left left_after ReadFault

-- an answer together with the numbers of the line, which were left in a buffer
abbrev pub with_buffer : {T : Type 0} → Result T TextEnd → Gathered → Result (T × Gathered) TextEnd
with_buffer (Ok answer) numbers = Ok (answer, numbers)
with_buffer (Err end) numbers = Err end

-- a line was given out that may follow for these counts, and it says these numbers; or no line that may follow was there
abbrev pub IsNextLineOrRefusal : Held → Held → Option (List ℕ) → Option (List ℕ) → ℕ → Counts → Result (Counts × Gathered) TextEnd → Type 0
IsNextLineOrRefusal before after left left_after index known (Ok found) =
    AreInRange found.0 × AgreeUpTo index known found.0 × (index < length (forms_of found.0)) × CanSay (form_in found.0 index) (Numbers (map fraction_of found.1.items))
    × Hands before after left left_after (said_text (form_in found.0 index) (Numbers (map fraction_of found.1.items)))
IsNextLineOrRefusal before after left left_after index known (Err end) = IsRefused before after left left_after (index + 1) (HasNoLine index known) end
