-- What the bytes of a journal mean: a version, a secret and a list of bodies.
use Rattle.std.specs.Prelude.{◌≡◌, ◌≢◌, ◌⊎◌, ℕ, ◌+◌, ◌≤◌, List, [], ◌∷◌, ◌++◌, length, codes}
use Rattle.std.specs.List.{sum_by}
use Rattle.std.specs.Int.{to_le_bytes, w32}
use Rattle.split_base.specs.Disk.{IsWritten, IsTorn, Tears}
use Rattle.gate_log.specs.declared.limits.TheConstants.{SECRET_SIZE, FRONT_SIZE, FIRST_GATE, BODY_LEAST, BODY_MOST}

-- the line that a journal begins with
abbrev pub start_line : List ℕ
start_line = codes "FAIRSPLIT LOG 1" ++ 10 ∷ []

-- the line, the secret and the version gate
abbrev pub header : ℕ → List ℕ → List ℕ
header gate secret = start_line ++ secret ++ gate ∷ []

-- version 1 if the version gate is 0, otherwise version 2
abbrev pub IsVersion : ℕ → ℕ → Type 0
IsVersion gate version = ((gate ≡ 0) × (version ≡ 1)) ⊎ ((gate ≢ 0) × (version ≡ 2))

-- a length that a body may have
abbrev pub IsLength : ℕ → Type 0
IsLength n = (BODY_LEAST ≤ n) × (n ≤ BODY_MOST)

-- the bytes may be the body of a record: they have a length in range
abbrev pub IsBody : List ℕ → Type 0
IsBody body = IsLength (length body)

-- a record with this gate
abbrev pub entry : ℕ → List ℕ → List ℕ
entry gate body = gate ∷ to_le_bytes w32 (length body) ++ body

-- these bytes are the records of these bodies, each with an open gate
abbrev pub IsRun : List (List ℕ) → List ℕ → Type 0
IsRun [] bytes = bytes ≡ []
IsRun (body ∷ bodies) bytes = (gate : ℕ) × (more : List ℕ) × (gate ≢ 0) × IsBody body × (bytes ≡ entry gate body ++ more) × IsRun bodies more

-- The file has this version, this secret and these bodies: the header, their records, and a closed gate after them. What comes after
-- that gate doesn't matter.
pub record Stands (version : ℕ) (secret : List ℕ) (bodies : List (List ℕ)) (file : List ℕ) : Type 0 where
  pub gate : ℕ
  pub run : List ℕ
  pub tail : List ℕ
  pub is_version : IsVersion gate version
  pub secret_size : length secret ≡ SECRET_SIZE
  pub is_run : IsRun bodies run
  pub is : file ≡ header gate secret ++ run ++ 0 ∷ tail

-- the file has this secret and these bodies, in either version
abbrev pub HoldsRecords : List ℕ → List (List ℕ) → List ℕ → Type 0
HoldsRecords secret bodies file = (version : ℕ) × Stands version secret bodies file

-- The file begins with a header of this version and secret and with the whole records of these bodies, and there is a
-- gate after them, closed or open.
pub record Begins (version : ℕ) (secret : List ℕ) (bodies : List (List ℕ)) (file : List ℕ) : Type 0 where
  pub gate : ℕ
  pub run : List ℕ
  pub rest : List ℕ
  pub is_version : IsVersion gate version
  pub secret_size : length secret ≡ SECRET_SIZE
  pub is_run : IsRun bodies run
  pub is : file ≡ header gate secret ++ run ++ rest
  pub has_gate : 1 ≤ length rest

-- the place of the gate after the records of these bodies
abbrev pub place_after : List (List ℕ) → ℕ
place_after bodies = FIRST_GATE + sum_by (λ body. FRONT_SIZE + length body) bodies

-- the file has these bodies, with or without one more
abbrev pub IsBeforeOrAfter : ℕ → List ℕ → List (List ℕ) → List ℕ → List ℕ → Type 0
IsBeforeOrAfter version secret bodies body file = Stands version secret bodies file ⊎ Stands version secret (bodies ++ body ∷ []) file

-- what an append writes after its gate: the length, the body, and the closed gate of the next record
abbrev pub behind_gate : List ℕ → List ℕ
behind_gate body = to_le_bytes w32 (length body) ++ body ++ 0 ∷ []

-- the file after the first write of an append, whose gate is at the place
abbrev pub IsStaged : (place : ℕ) (body old staged : List ℕ) → Type 0
IsStaged place body old staged = IsWritten old (place + 1) (behind_gate body) staged

-- the file after both writes: what follows the gate, and then the open gate
abbrev pub IsAppended : (place : ℕ) (body old new : List ℕ) → Type 0
IsAppended place body old new = (staged : List ℕ) × IsStaged place body old staged × IsWritten staged place (1 ∷ []) new

-- A crash within an append may leave this: an image from before it, torn by the first write or not, or the file after that write, torn
-- by the second or not.
abbrev pub MayBeAppending : (images : List ℕ → Type 0) (place : ℕ) (body old : List ℕ) → List ℕ → Type 0
MayBeAppending images place body old file = Tears images (place + 1) (length (behind_gate body)) file
    ⊎ ((staged : List ℕ) × IsStaged place body old staged × IsTorn place 1 staged file)

-- these bodies begin with those
abbrev pub BeginWith : List (List ℕ) → List (List ℕ) → Type 0
BeginWith bodies others = (more : List (List ℕ)) × (bodies ≡ others ++ more)
