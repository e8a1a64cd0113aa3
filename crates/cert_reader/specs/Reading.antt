-- How far a text has been read, and what each answer says about the bytes taken from the source.
use Rattle.std.specs.Prelude.{◌≡◌, ℕ, pos, ◌+◌, ◌-◌, ◌<◌, ◌≤◌, List, [], ◌∷◌, ◌++◌, length, map, take, Bool, cond, Option, Some, None, Result, Ok, Err, ⊤}
use Rattle.std.specs.Io.KnownBytes.{Consumes, IsAtEnd}
use Rattle.split_frac.specs.Frac.{fraction_of}
use Rattle.cert_reader.specs.declared.ends.TextEnd.{TextEnd}
use Rattle.cert_reader.specs.declared.ends.TextEnd.TheVariants.{NotText, ReadFault, TooLong}
use Rattle.cert_reader.specs.declared.forms.Counts.{Counts}
use Rattle.cert_reader.specs.declared.limits.TheConstants.{MOST_BYTES}
use Rattle.cert_reader.specs.declared.pieces.Piece.{Piece}
use Rattle.cert_reader.specs.declared.pieces.Piece.TheVariants.{Done, Kind, Line, Mark}
use Rattle.cert_reader.specs.declared.pieces.Part.{Part}
use Rattle.cert_reader.specs.declared.pieces.Part.TheVariants as part
use Rattle.cert_reader.specs.declared.text_lines.TextLines.{TextLines}
use Rattle.cert_reader.specs.Forms.{AreCountsOf, Certificates, Series, Tree, forms_of}
use Rattle.cert_reader.specs.Kinds.{TellsKind, kind_number}
use Rattle.cert_reader.specs.Gathered.{Gathered}
use Rattle.cert_reader.specs.Order.{AgreeUpTo, form_in}
use Rattle.cert_reader.specs.Stream.{ends_after}
use Rattle.cert_reader.specs.Text.{CanSayAll, IsBrokenTextOf, IsText, IsTextOf, Marks, Numbers, Said, text_of}
use Rattle.cert_reader.specs.Views.{says}

-- the bytes are the first k lines of a text of the series with these counts, which say this, and then the rest
pub record Begins (series : Series) (bytes : List ℕ) (k : ℕ) (counts : Counts) (said : List Said) (rest : List ℕ) : Type 0 where
  pub are_counts : AreCountsOf series counts
  pub within : k ≤ length (forms_of counts)
  pub fits : CanSayAll (take k (forms_of counts)) said
  pub text : bytes ≡ text_of (take k (forms_of counts)) said ++ rest

-- a text that is being read: the bytes held, how many bytes the lines read so far have, how many lines these are, and the counts so far, where a count that no
-- line has fixed yet is the least. If the last of these lines is a tree that is still being read, more marks may follow
pub record Reading : Type 0 where
  pub ahead : List ℕ
  pub given : ℕ
  pub lines : ℕ
  pub counts : Counts
  pub in_tree : Bool

-- what the last line still lacks: its LF, if it is a tree that is still being read
abbrev pub lacking : Reading → List ℕ
lacking reading = cond reading.in_tree (10 ∷ []) []

-- the reading of these lines, the last of which is a tree that is still being read or is not
abbrev pub as_reading : TextLines → Bool → Reading
as_reading text in_tree = record { ahead = text.bytes.ahead; given = text.bytes.given; lines = text.lines; counts = text.counts; in_tree = in_tree }

-- the bytes taken from the source are lines of a text of the series that say this, except for what the last one still lacks, and then the bytes held
pub record IsReadOf (series : Series) (reading : Reading) (taken : List ℕ) (said : List Said) : Type 0 where
  pub front : List ℕ
  pub is_taken : taken ≡ front ++ reading.ahead
  pub begins : Begins series (front ++ (lacking reading ++ reading.ahead)) reading.lines reading.counts said reading.ahead
  pub total : length taken ≡ reading.given + length reading.ahead

-- the same of a certificate
abbrev pub IsRead : Reading → List ℕ → List Said → Type 0
IsRead reading taken said = IsReadOf Certificates reading taken said

-- what lines say with one more mark: added to the tree that is their last line, or as the first mark of a tree after them
abbrev pub with_mark : List Said → ℕ → List Said
with_mark [] mark = Marks (mark ∷ []) ∷ []
with_mark (Marks marks ∷ []) mark = Marks (marks ++ mark ∷ []) ∷ []
with_mark (line ∷ lines) mark = line ∷ with_mark lines mark

-- the last of this many lines is a tree
abbrev pub EndsInTree : ℕ → Counts → Type 0
EndsInTree lines counts = (0 < lines) × (form_in counts (lines - 1) ≡ Tree)

-- a line is still to come
abbrev pub HasLineToCome : Reading → Type 0
HasLineToCome reading = reading.lines < length (forms_of reading.counts)

-- why the bytes taken from the source aren't a text of the series: a first broken line, one byte too many, or a failed read
abbrev pub IsEndOf : Series → TextEnd → Option (List ℕ) → List ℕ → Type 0
IsEndOf series (NotText line) left taken = IsBrokenTextOf series taken line × (length taken ≤ MOST_BYTES) × IsAtEnd left
IsEndOf series TooLong left taken = length taken ≡ MOST_BYTES + 1
IsEndOf series ReadFault left taken = length taken ≤ MOST_BYTES

-- why the bytes taken from the source aren't a certificate
abbrev pub IsEnd : TextEnd → Option (List ℕ) → List ℕ → Type 0
IsEnd end left taken = IsEndOf Certificates end left taken

-- the source gave more bytes, and this holds of all bytes taken so far and of what the lines before them say
abbrev pub ReadsOnIn : Series → Reading → Option (List ℕ) → Option (List ℕ) → (List ℕ → List Said → Type 0) → Type 0
ReadsOnIn series reading before after P =
    (more : List ℕ) × Consumes before after more × ((taken : List ℕ) (said : List Said) → IsReadOf series reading taken said → P (taken ++ more) said)

-- the same of a certificate
abbrev pub ReadsOn : Reading → Option (List ℕ) → Option (List ℕ) → (List ℕ → List Said → Type 0) → Type 0
ReadsOn reading before after P = ReadsOnIn Certificates reading before after P

-- what a piece says. The first piece is the kind, from two lines. Then each line gives one piece with its numbers, a tree gives one piece for each mark, and
-- the last line, `end`, gives none
abbrev pub IsPiece : Reading → Reading → Option (List ℕ) → List ℕ → List Said → Piece → Type 0
IsPiece old new left taken said (Kind kind) = (old.lines ≡ 0) × (new.lines ≡ 2) × TellsKind kind new.counts × IsRead new taken (says (pos 1 ∷ []) ∷ says [] ∷ [])
IsPiece old new left taken said (Line numbers) =
    (0 < old.lines) × (new.lines ≡ old.lines + 1) × AgreeUpTo old.lines old.counts new.counts × IsRead new taken (said ++ Numbers (map fraction_of numbers.items) ∷ [])
IsPiece old new left taken said (Mark mark) = (0 < old.lines) × (new.counts ≡ old.counts) × IsRead new taken (with_mark said mark)
IsPiece old new left taken said Done =
    (old.lines + 1 ≡ length (forms_of new.counts)) × AgreeUpTo old.lines old.counts new.counts × IsText taken new.counts (said ++ says [] ∷ []) × (length taken ≤ MOST_BYTES) × IsAtEnd left

-- the most that the source's count of reads that gave nothing can be after a piece: one more if the text is done, since the end was met, and otherwise the
-- same
abbrev pub ends_by_piece : ℕ → Result Piece TextEnd → ℕ
ends_by_piece before (Ok (Kind kind)) = before
ends_by_piece before (Ok (Line numbers)) = before
ends_by_piece before (Ok (Mark mark)) = before
ends_by_piece before (Ok Done) = before + 1
ends_by_piece before (Err stop) = ends_after before stop

-- the answer is the next piece, or why the bytes aren't a certificate
abbrev pub IsAnswer : Reading → Reading → Option (List ℕ) → List ℕ → List Said → Result Piece TextEnd → Type 0
IsAnswer old new left taken said (Ok piece) = IsPiece old new left taken said piece
IsAnswer old new left taken said (Err end) = IsEnd end left taken

-- the numbers of a line that was read, which were left in a buffer
abbrev pub left_in : Gathered → Result ⊤ TextEnd → Result Gathered TextEnd
left_in numbers (Ok done) = Ok numbers
left_in numbers (Err end) = Err end

-- the piece that a part of a text is, with the numbers that a line has left in a buffer, and with the number of a kind
abbrev pub piece_of : Part → Gathered → Piece
piece_of (part.Kind kind) numbers = Kind (kind_number kind)
piece_of part.Line numbers = Line numbers
piece_of (part.Mark mark) numbers = Mark mark
piece_of part.Done numbers = Done

-- the answer with that piece
abbrev pub with_numbers : Result Part TextEnd → Gathered → Result Piece TextEnd
with_numbers (Ok part) numbers = Ok (piece_of part numbers)
with_numbers (Err end) numbers = Err end

-- a line was read, and these are its numbers; or no line of any text can follow
abbrev pub IsLineRead : Series → Reading → Reading → Option (List ℕ) → List ℕ → List Said → Result Gathered TextEnd → Type 0
IsLineRead series old new left taken said (Ok numbers) =
    (new.lines ≡ old.lines + 1) × AgreeUpTo old.lines old.counts new.counts × IsReadOf series new taken (said ++ Numbers (map fraction_of numbers.items) ∷ [])
IsLineRead series old new left taken said (Err end) = IsEndOf series end left taken

-- one mark of a tree was read, the first or another; or no text goes on like this
abbrev pub IsMarkRead : Reading → Reading → Option (List ℕ) → List ℕ → List Said → Result ℕ TextEnd → Type 0
IsMarkRead old new left taken said (Ok mark) = (new.counts ≡ old.counts) × IsRead new taken (with_mark said mark)
IsMarkRead old new left taken said (Err end) = IsEnd end left taken

-- one more mark of the tree was read, or the LF after its marks; or no text goes on like this
abbrev pub IsTreeRead : Reading → Reading → Option (List ℕ) → List ℕ → List Said → Result (Option ℕ) TextEnd → Type 0
IsTreeRead old new left taken said (Ok (Some mark)) = (new.counts ≡ old.counts) × IsRead new taken (with_mark said mark)
IsTreeRead old new left taken said (Ok None) = IsRead new taken said
IsTreeRead old new left taken said (Err end) = IsEnd end left taken

-- all lines were read and nothing follows them, so the bytes are a text; or something follows
abbrev pub IsFinished : Series → Reading → Option (List ℕ) → List ℕ → List Said → Result ⊤ TextEnd → Type 0
IsFinished series reading left taken said (Ok done) = IsTextOf series taken reading.counts said × (length taken ≤ MOST_BYTES) × IsAtEnd left
IsFinished series reading left taken said (Err end) = IsEndOf series end left taken
