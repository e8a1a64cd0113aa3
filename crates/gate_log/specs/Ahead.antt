-- The bytes of a journal's file that were read ahead and are not yet taken, and the room for more.
use Rattle.std.specs.Prelude.{ℕ, ◌-◌, List, slice_range}
use Rattle.gate_log.specs.declared.ahead.Ahead.{Ahead}
use Rattle.gate_log.specs.declared.limits.TheConstants.{PIECE}

-- the bytes that were read ahead and are not yet taken
abbrev pub bytes_of : Ahead → List ℕ
bytes_of a = slice_range a.piece a.from a.to

-- how many more bytes have room
abbrev pub room_of : Ahead → ℕ
room_of a = PIECE - a.to
