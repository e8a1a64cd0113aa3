-- Where the first fault of a file is, in its header or in its records.
use Rattle.std.specs.Prelude.{◌≡◌, ◌≢◌, ◌⊎◌, ℕ, ◌+◌, ◌≤◌, ◌<◌, List, [], ◌∷◌, ◌++◌, length, take, slice_index, All, ◌^◌}
use Rattle.std.specs.Int.{from_le_bytes, w32}
use Rattle.gate_log.specs.Records.{start_line, header, IsVersion, IsLength, IsRun, Begins, Stands, place_after}
use Rattle.gate_log.specs.declared.limits.TheConstants.{LINE_SIZE, SECRET_SIZE, LENGTH_SIZE, FRONT_SIZE, EMPTY_SIZE}

-- the first byte of the start line that differs or is missing
pub record IsLineFault (place : ℕ) (file : List ℕ) : Type 0 where
  pub within : place < LINE_SIZE
  pub before : take place file ≡ take place start_line
  pub differs : (length file ≤ place) ⊎ (slice_index file place ≢ slice_index start_line place)

-- the first byte after the start line that is missing in the header or at the first gate
pub record IsCutHeader (place : ℕ) (file : List ℕ) : Type 0 where
  pub line : take LINE_SIZE file ≡ start_line
  pub size : length file ≡ place
  pub short : place < EMPTY_SIZE

-- the first fault of the file is here: in its start line, or at the place at which its header is cut
abbrev pub IsHeaderFault : ℕ → List ℕ → Type 0
IsHeaderFault place file = IsLineFault place file ⊎ IsCutHeader place file

-- the number in the bytes of the length after a gate
abbrev pub length_in : List ℕ → ℕ
length_in more = from_le_bytes w32 (take LENGTH_SIZE more)

-- A record whose gate is open at p has a fault. Its place is p + 1 if the length is out of range. It is the file's size if the length, the body or
-- the next gate is missing.
abbrev pub IsShort : List ℕ → Type 0
IsShort more = (length more < LENGTH_SIZE) ⊎ ((LENGTH_SIZE ≤ length more) × IsLength (length_in more) × (length more < FRONT_SIZE + length_in more))

-- a length comes next that no body may have
abbrev pub IsOutOfRange : List ℕ → Type 0
IsOutOfRange more = (LENGTH_SIZE ≤ length more) × (¬ IsLength (length_in more))

-- after a gate at p the fault is here: at the end of the file if it is cut within the record, or at the length if no body may have it
abbrev pub IsRecordFault : (p : ℕ) (more : List ℕ) (size place : ℕ) → Type 0
IsRecordFault p more size place = (IsShort more × (place ≡ size)) ⊎ (IsOutOfRange more × (place ≡ p + 1))

-- a whole header and the whole records of these bodies, and then a record with an open gate that has a fault
pub record IsFaultAfter (version : ℕ) (secret : List ℕ) (bodies : List (List ℕ)) (place : ℕ) (file : List ℕ) : Type 0 where
  pub version_gate : ℕ
  pub run : List ℕ
  pub gate : ℕ
  pub more : List ℕ
  pub is_version : IsVersion version_gate version
  pub secret_size : length secret ≡ SECRET_SIZE
  pub is_run : IsRun bodies run
  pub opened : gate ≢ 0
  pub is : file ≡ header version_gate secret ++ run ++ gate ∷ more
  pub fault : IsRecordFault (place_after bodies) more (length file) place

-- such a record comes after some records
abbrev pub IsFaultBehind : ℕ → List ℕ → Type 0
IsFaultBehind place file = (version : ℕ) × (secret : List ℕ) × (bodies : List (List ℕ)) × IsFaultAfter version secret bodies place file

-- the first fault of the file
abbrev pub IsFault : ℕ → List ℕ → Type 0
IsFault place file = IsHeaderFault place file ⊎ IsFaultBehind place file

-- after the records of these bodies the file ends as a journal, has a fault, or goes on with one record more
abbrev pub GoesOn : ℕ → List ℕ → List (List ℕ) → List ℕ → Type 0
GoesOn version secret bodies file =
    Stands version secret bodies file ⊎ ((place : ℕ) × IsFaultAfter version secret bodies place file) ⊎ ((body : List ℕ) × All (λ b. b < 2 ^ 8) body × Begins version secret (bodies ++ body ∷ []) file)

-- the file is a journal, or it has a first fault
abbrev pub HasMeaning : List ℕ → Type 0
HasMeaning file = ((version : ℕ) × (secret : List ℕ) × (bodies : List (List ℕ)) × Stands version secret bodies file) ⊎ ((place : ℕ) × IsFault place file)
