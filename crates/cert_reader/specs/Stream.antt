-- What comes between a source and the lines read from it.
use Rattle.std.specs.Prelude.{◌≡◌, ◌≢◌, Bool, ℕ, ◌+◌, ◌<◌, ◌≤◌, List, [], ◌∷◌, ◌++◌, length, take, slice_index, Option, None, Some, Result, Ok, Err}
use Rattle.std.specs.Bool.{MatchBool}
use Rattle.std.specs.Io.KnownBytes.{Consumes, IsAtEnd}
use Rattle.split_base.specs.Faults.{counted}
use Rattle.cert_reader.specs.declared.limits.TheConstants.{LONGEST_LINE, MOST_BYTES}
use Rattle.cert_reader.specs.declared.ends.TextEnd.{TextEnd}
use Rattle.cert_reader.specs.declared.ends.TextEnd.TheVariants.{NotText, ReadFault, TooLong}
use Rattle.cert_reader.specs.declared.stream.Cut.{Cut}
use Rattle.cert_reader.specs.declared.stream.Cut.TheVariants.{Line, Long, Unended}
use Rattle.cert_reader.specs.declared.stream.Front.{Front}
use Rattle.cert_reader.specs.declared.stream.Front.TheVariants.{Ended, Other, Whole}

-- the bytes taken from the source and not given out yet, how many bytes were given out, and the line that was read last
pub record Held : Type 0 where
  pub ahead : List ℕ
  pub given : ℕ
  pub line : List ℕ

-- how many bytes were taken from the source
abbrev pub taken_count : Held → ℕ
taken_count held = held.given + length held.ahead

-- these bytes were given out: what was held before and what was taken since are these bytes and what is held now
pub record Hands (before after : Held) (left_before left_after : Option (List ℕ)) (handed : List ℕ) : Type 0 where
  pub more : List ℕ
  pub took : Consumes left_before left_after more
  pub seam : before.ahead ++ more ≡ handed ++ after.ahead
  pub given : after.given ≡ before.given + length handed

-- how many bytes may have been taken when the reading stops: exactly one more than the limit if the text is too long, and at most the limit after a failed read
abbrev pub IsStopAt : TextEnd → ℕ → Type 0
IsStopAt TooLong total = total ≡ MOST_BYTES + 1
IsStopAt ReadFault total = total ≤ MOST_BYTES
IsStopAt (NotText line) total = ⊥

-- the reading stopped for this reason
abbrev pub IsStopped : Held → Option (List ℕ) → Option (List ℕ) → TextEnd → Type 0
IsStopped held before after stop = (more : List ℕ) × Consumes before after more × IsStopAt stop (taken_count held + length more)

-- the source's count of faults after the answer: one more after a failed read, which is not tried again, and otherwise the same
abbrev pub faults_after_reading : {T : Type 0} → ℕ → Result T TextEnd → ℕ
faults_after_reading before (Ok answer) = before
faults_after_reading before (Err ReadFault) = counted before
faults_after_reading before (Err TooLong) = before
faults_after_reading before (Err (NotText line)) = before

-- how often the end was met if reading stopped for this reason: once if the bytes are not text
abbrev pub ends_met : TextEnd → ℕ
ends_met (NotText line) = 1
ends_met ReadFault = 0
ends_met TooLong = 0

-- the most that the source's count of reads that gave nothing can be when the reading stops for this reason. If the count is higher by at most one, nothing was
-- read once the end was met
abbrev pub ends_after : ℕ → TextEnd → ℕ
ends_after before stop = before + ends_met stop

-- and after an answer that comes before the end
abbrev pub ends_before : {T : Type 0} → ℕ → Result T TextEnd → ℕ
ends_before before (Ok answer) = before
ends_before before (Err stop) = ends_after before stop

-- and after an answer that comes at the end
abbrev pub ends_at : {T : Type 0} → ℕ → Result T TextEnd → ℕ
ends_at before (Ok answer) = before + 1
ends_at before (Err stop) = ends_after before stop

-- and after a byte, or none at the end
abbrev pub ends_by_byte : ℕ → Result (Option ℕ) TextEnd → ℕ
ends_by_byte before (Ok None) = before + 1
ends_by_byte before (Ok (Some byte)) = before
ends_by_byte before (Err stop) = ends_after before stop

-- and after a line, or what is at the end without an LF
abbrev pub ends_by_cut : ℕ → Result Cut TextEnd → ℕ
ends_by_cut before (Ok Line) = before
ends_by_cut before (Ok Long) = before
ends_by_cut before (Ok Unended) = before + 1
ends_by_cut before (Err stop) = ends_after before stop

-- and after the front of some bytes
abbrev pub ends_by_front : ℕ → Result Front TextEnd → ℕ
ends_by_front before (Ok Whole) = before
ends_by_front before (Ok Other) = before
ends_by_front before (Ok Ended) = before + 1
ends_by_front before (Err stop) = ends_after before stop

-- the text has no LF
pub record IsPlain (text : List ℕ) : Type 0 where
  pub none : (k : ℕ) → k < length text → slice_index text k ≢ 10

-- some of the bytes held, none of which is an LF, were given out; the line has them after what it had, or there was no room for them
pub record IsFrontKept (before after : Held) (kept : Bool) : Type 0 where
  pub front : List ℕ
  pub plain : IsPlain front
  pub seam : before.ahead ≡ front ++ after.ahead
  pub given : after.given ≡ before.given + length front
  pub line : MatchBool kept (after.line ≡ before.line ++ front) ((after.line ≡ before.line) × (LONGEST_LINE < length before.line + length front))

-- what was given out is a line; or a line that is longer than any line of a text; or what is at the end without an LF
abbrev pub IsCut : Held → Held → Option (List ℕ) → Option (List ℕ) → Cut → Type 0
IsCut before after left left_after Line = IsPlain after.line × Hands before after left left_after (after.line ++ 10 ∷ [])
IsCut before after left left_after Long = (text : List ℕ) × (LONGEST_LINE < length text) × IsPlain text × Hands before after left left_after (text ++ 10 ∷ [])
IsCut before after left left_after Unended = (text : List ℕ) × IsPlain text × Hands before after left left_after text × (after.ahead ≡ []) × IsAtEnd left_after

-- how much of these bytes was given out: all of them; some of them and then a different byte; or some of them and then the end
abbrev pub IsFrontTaken : Held → Held → Option (List ℕ) → Option (List ℕ) → List ℕ → Front → Type 0
IsFrontTaken before after left left_after front Whole = Hands before after left left_after front
IsFrontTaken before after left left_after front Other =
    (count : ℕ) × (byte : ℕ) × (count < length front) × (byte ≢ slice_index front count) × Hands before after left left_after (take count front ++ byte ∷ [])
IsFrontTaken before after left left_after front Ended = (count : ℕ) × Hands before after left left_after (take count front) × (after.ahead ≡ []) × IsAtEnd left_after
