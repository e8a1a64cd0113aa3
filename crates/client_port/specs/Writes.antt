-- What a write to a client came to.
use Rattle.std.specs.Prelude.{ℕ, ◌<◌, ◌≤◌, List, length, ⊤}
use Rattle.client_port.specs.declared.clients.Written.{Written}
use Rattle.client_port.specs.declared.clients.Written.TheVariants.{Taken, Full, Failed}

-- what the client took is a first part of the piece, and at least one byte if the piece has any
abbrev pub IsWritten : List ℕ → Written → Type 0
IsWritten piece (Taken n) = (n ≤ length piece) × (0 < length piece → 0 < n)
IsWritten piece Full = ⊤
IsWritten piece Failed = ⊤
