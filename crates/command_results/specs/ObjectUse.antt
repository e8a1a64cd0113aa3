-- How a command has used its source and its sink when it ends: what it read and wrote, and whether their calls failed.
use Rattle.std.specs.Prelude.{◌≡◌, ◌⊎◌, ℕ, ◌+◌, ◌<◌, ◌≤◌, List, Option, length, take}
use Rattle.std.specs.Io.KnownBytes.{Appends, Consumes, IsAtEnd}
use Rattle.split_base.specs.Faults.{HasRisen, counted}

-- the bytes that an object has left or holds, if it knows them, and its count of faults
pub record ObjectUse : Type 0 where
  pub bytes_before : Option (List ℕ)
  pub bytes_after : Option (List ℕ)
  pub faults_before : ℕ
  pub faults_after : ℕ

-- what an object reveals, from what its trait says about its bytes and faults
abbrev pub use_of : {S : Type 0} → (S → Option (List ℕ)) → (S → ℕ) → S → S → ObjectUse
use_of bytes faults before after = record { bytes_before = bytes before; bytes_after = bytes after; faults_before = faults before; faults_after = faults after }

-- the object's count of faults rose, or is at its greatest value
abbrev pub HasFault : ObjectUse → Type 0
HasFault object = HasRisen object.faults_before object.faults_after

-- the object's count of faults did not rise
abbrev pub IsSound : ObjectUse → Type 0
IsSound object = HasFault object → ⊥

-- no call of the object failed: its count of faults stays the same
abbrev pub HasNoFault : ObjectUse → Type 0
HasNoFault object = object.faults_after ≡ object.faults_before

-- one call of the object failed, and no other: its count of faults goes up by one, or is at its greatest value
abbrev pub HasOneFault : ObjectUse → Type 0
HasOneFault object = HasFault object × (object.faults_after ≡ counted object.faults_before)

-- the input gave these bytes, at most this many, and then no more were left; no read failed
abbrev pub IsWhole : ℕ → ObjectUse → List ℕ → Type 0
IsWhole most input bytes = (length bytes ≤ most) × Consumes input.bytes_before input.bytes_after bytes × IsAtEnd input.bytes_after × HasNoFault input

-- nothing was read, and no read failed
abbrev pub IsUntouched : ObjectUse → Type 0
IsUntouched input = (input.bytes_after ≡ input.bytes_before) × HasNoFault input

-- the input gave some bytes, at most one more than this many
abbrev pub IsPartRead : ℕ → ObjectUse → Type 0
IsPartRead most input = (bytes : List ℕ) × (length bytes ≤ most + 1) × Consumes input.bytes_before input.bytes_after bytes

-- the input gave one byte more than this many, and no more of it was read; no read failed
abbrev pub IsTooLong : ℕ → ObjectUse → Type 0
IsTooLong most input = (bytes : List ℕ) × (length bytes ≡ most + 1) × Consumes input.bytes_before input.bytes_after bytes × HasNoFault input

-- the text was written
abbrev pub HasWritten : ObjectUse → List ℕ → Type 0
HasWritten output text = Appends output.bytes_before output.bytes_after text

-- the text was written, no write failed, and the status is its own; or one write failed, some byte of the text is missing, and the status is 6
abbrev pub Ends : ObjectUse → List ℕ → ℕ → ℕ → Type 0
Ends output text due status =
    ((status ≡ due) × HasWritten output text × HasNoFault output)
    ⊎ ((status ≡ 6) × HasOneFault output × ((n : ℕ) × (n < length text) × HasWritten output (take n text)))
