-- What reading a whole text gives.
use Rattle.std.specs.Prelude.{◌≡◌, ℕ, ◌<◌, ◌≤◌, ◌⊎◌, List, [], length, Option, Result, Ok, Err}
use Rattle.std.specs.Io.KnownBytes.{IsAtEnd}
use Rattle.cert_reader.specs.declared.certificate.Certificate.{Certificate}
use Rattle.cert_reader.specs.declared.ends.TextEnd.{TextEnd}
use Rattle.cert_reader.specs.declared.limits.TheConstants.{MOST_BYTES}
use Rattle.cert_reader.specs.Gathered.{Gathered, gathered_said}
use Rattle.cert_reader.specs.Reading.{IsEnd, IsRead, Reading}
use Rattle.cert_reader.specs.Text.{IsText}
use Rattle.cert_reader.specs.Views.{counts_of, said_of, view_of}

-- the bytes taken from the source are the text of this certificate, and the source has ended; or the answer is why they are not
abbrev pub IsReadWhole : Option (List ℕ) → List ℕ → Result Certificate TextEnd → Type 0
IsReadWhole left taken (Ok certificate) = IsText taken (counts_of (view_of certificate)) (said_of (view_of certificate)) × (length taken ≤ MOST_BYTES) × IsAtEnd left
IsReadWhole left taken (Err end) = IsEnd end left taken

-- nothing has been read yet; or the two lines that say the kind have been read, and the lines and marks that have been kept
-- since
abbrev pub IsGathering : Reading → List ℕ → List Gathered → List ℕ → Type 0
IsGathering reading taken lines marks =
    ((reading.lines ≡ 0) × (lines ≡ []) × (marks ≡ []) × IsRead reading taken []) ⊎ ((0 < reading.lines) × IsRead reading taken (gathered_said lines marks))
