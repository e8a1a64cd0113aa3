-- A log and the file to which it belongs.
use Rattle.std.specs.Prelude.{◌≡◌, ℕ, ◌+◌, ◌≤◌, List, length, take, drop, Bool, true, IsFalse, slice_index}
use Rattle.split_base.specs.Disk.{Each}
use Rattle.gate_log.specs.declared.limits.TheConstants.{LINE_SIZE, SECRET_SIZE, FRONT_SIZE, VERSION_GATE, EMPTY_SIZE}
use Rattle.gate_log.specs.Records.{start_line, IsVersion, Begins, Stands, place_after}

-- A log as contracts see it: the place of its gate, the file's version, whether that gate is known to be closed, and
-- while the file is read its size and the bytes from the place on that were read ahead.
pub record LogView : Type 0 where
  pub place : ℕ
  pub version : ℕ
  pub at_end : Bool
  pub size : ℕ
  pub ahead : List ℕ

-- each image has these bodies in the log's version, and the log is at the closed gate after them
pub record IsLogOf (images : List ℕ → Type 0) (log : LogView) (secret : List ℕ) (bodies : List (List ℕ)) : Type 0 where
  pub each : Each images (Stands log.version secret bodies)
  pub place : log.place ≡ place_after bodies

-- these bytes are those of the file from the place on
abbrev pub IsAhead : List ℕ → ℕ → List ℕ → Type 0
IsAhead file place ahead = ahead ≡ take (length ahead) (drop place file)

-- the header and the records of these bodies were read from this file, and the log is at the gate after them
pub record IsReading (file : List ℕ) (log : LogView) (secret : List ℕ) (bodies : List (List ℕ)) : Type 0 where
  pub begins : Begins log.version secret bodies file
  pub place : log.place ≡ place_after bodies
  pub unknown : IsFalse log.at_end
  pub size : log.size ≡ length file
  pub ahead : IsAhead file log.place log.ahead

-- the log with other bytes read ahead
abbrev pub with_ahead : LogView → List ℕ → LogView
with_ahead log ahead = record { place = log.place; version = log.version; at_end = log.at_end; size = log.size; ahead = ahead }

-- the log whose gate was found closed
abbrev pub with_gate_closed : LogView → LogView
with_gate_closed log = record { place = log.place; version = log.version; at_end = true; size = log.size; ahead = log.ahead }

-- the log past a record with a body of this length
abbrev pub past : LogView → ℕ → LogView
past log n = record { place = log.place + FRONT_SIZE + n; version = log.version; at_end = log.at_end; size = log.size; ahead = drop (FRONT_SIZE + n) log.ahead }

-- the bytes of a header that are the secret
abbrev pub secret_in : List ℕ → List ℕ
secret_in bytes = take SECRET_SIZE (drop LINE_SIZE bytes)

-- bytes that begin with a header of this version and the first gate
pub record IsHeaded (bytes : List ℕ) (version : ℕ) : Type 0 where
  pub line : take LINE_SIZE bytes ≡ start_line
  pub long : EMPTY_SIZE ≤ length bytes
  pub is_version : IsVersion (slice_index bytes VERSION_GATE) version
