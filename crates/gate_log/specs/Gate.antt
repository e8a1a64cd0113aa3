-- What is at a gate.
use Rattle.std.specs.Prelude.{◌≡◌, ◌≢◌, ◌⊎◌, ℕ, ◌+◌, ◌≤◌, List, [], ◌∷◌, length, take}
use Rattle.std.specs.Int.{to_le_bytes, w32}
use Rattle.gate_log.specs.Records.{IsLength}
use Rattle.gate_log.specs.Faults.{IsShort, IsOutOfRange}
use Rattle.gate_log.specs.declared.limits.TheConstants.{LENGTH_SIZE, FRONT_SIZE}
use Rattle.gate_log.specs.declared.gate.AtGate.{AtGate}
use Rattle.gate_log.specs.declared.gate.AtGate.TheVariants as gate

-- the gate is open, and the bytes end before its record and the next gate do
abbrev pub EndsEarly : List ℕ → Type 0
EndsEarly ahead = (ahead ≡ []) ⊎ ((gate : ℕ) × (more : List ℕ) × (gate ≢ 0) × (ahead ≡ gate ∷ more) × IsShort more)

-- the gate is open, the length is this and in its range, and as many bytes follow, and one more for the next gate
abbrev pub BeginsRecord : List ℕ → ℕ → Type 0
BeginsRecord ahead n = (gate : ℕ) × (more : List ℕ) × (gate ≢ 0) × (ahead ≡ gate ∷ more) × IsLength n × (take LENGTH_SIZE more ≡ to_le_bytes w32 n) × (FRONT_SIZE + n ≤ length more)

-- what the bytes from a gate on begin with: a closed gate, an open one with its record, a length out of range, or a part of these
abbrev pub Shows : List ℕ → AtGate → Type 0
Shows ahead gate.Closed = (more : List ℕ) × (ahead ≡ 0 ∷ more)
Shows ahead (gate.Record n) = BeginsRecord ahead n
Shows ahead gate.OutOfRange = (gate : ℕ) × (more : List ℕ) × (gate ≢ 0) × (ahead ≡ gate ∷ more) × IsOutOfRange more
Shows ahead gate.Short = EndsEarly ahead
