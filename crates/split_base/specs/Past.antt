-- A disk in memory as the list of the calls that changed it.
use Rattle.std.specs.Prelude.{◌≡◌, ◌⊎◌, ℕ, ◌+◌, ◌-◌, ◌≤◌, ◌<◌, List, [], ◌∷◌, ◌++◌, length, take, drop, replicate, Option, IsSomeAnd, Contains}
use Rattle.split_base.specs.Disk.{IsTorn}
use Rattle.split_base.specs.Memory.{counted}

-- a call that changed the file, or what is stable of it
pub data Act : Type 0 where
  Wrote : (place : ℕ) → (bytes : List ℕ) → Act
  Synced : Act

-- a write: its place and its bytes
pub record Write : Type 0 where
  pub place : ℕ
  pub bytes : List ℕ

-- what a read gives, what was stable at the last sync, and the writes since then, latest first
pub record State : Type 0 where
  pub seen : List ℕ
  pub stable : List ℕ
  pub later : List Write

-- a file after a write: any gap is filled with zeros, and a write of no bytes changes nothing
abbrev pub after_write : List ℕ → ℕ → List ℕ → List ℕ
after_write old place [] = old
after_write old place (b ∷ bytes) = take place old ++ replicate (place - length old) 0 ++ b ∷ bytes ++ drop (place + length (b ∷ bytes)) old

-- the state after this call: a write changes what a read gives and is listed, and a sync makes all of it stable and empties the list
abbrev pub after : State → Act → State
after s (Wrote place bytes) = record { seen = after_write s.seen place bytes; stable = s.stable; later = record { place = place; bytes = bytes } ∷ s.later }
after s Synced = record { seen = s.seen; stable = s.seen; later = [] }

-- the state after these calls, one after the other
abbrev pub after_all : State → List Act → State
after_all s [] = s
after_all s (act ∷ acts) = after_all (after s act) acts

-- the state of a file that is stable with these bytes, before any write
abbrev pub stable_file : List ℕ → State
stable_file bytes = record { seen = bytes; stable = bytes; later = [] }

-- what a crash may leave of a stable file after these writes
abbrev pub IsImage : List Write → List ℕ → List ℕ → Type 0
IsImage [] stable c = c ≡ stable
IsImage (w ∷ earlier) stable c = (d : List ℕ) × IsImage earlier stable d × IsTorn w.place (length w.bytes) d c

-- what a crash in this state may leave of the file
abbrev pub images_of : State → List ℕ → Type 0
images_of s c = IsImage s.later s.stable c

-- what a crash after the first t of these calls, or later, might have left
abbrev pub LeftSince : List ℕ → List Act → ℕ → List ℕ → Type 0
LeftSince first acts t c = (k : ℕ) × (t ≤ k) × (k ≤ length acts) × images_of (after_all (stable_file first) (take k acts)) c

-- how many bytes these writes have in total
abbrev pub total : List Write → ℕ
total [] = 0
total (w ∷ earlier) = total earlier + length w.bytes

-- a stable file with the first `keep` bytes of these writes on top
abbrev pub on_top : List ℕ → List Write → ℕ → List ℕ
on_top stable [] keep = stable
on_top stable (w ∷ earlier) keep = after_write (on_top stable earlier keep) w.place (take (keep - total earlier) w.bytes)

-- a disk in memory as contracts see it: the bytes that it began with and the calls that have changed it since, the
-- greatest size of the file, the room that is left in its list of calls, the numbers of the calls that fail and of the
-- first one from which all fail, and how many calls were made and have failed
pub record DiskState : Type 0 where
  pub first : List ℕ
  pub acts : List Act
  pub room : ℕ
  pub list : ℕ
  pub fails : List ℕ
  pub stop : Option ℕ
  pub calls : ℕ
  pub faults : ℕ

-- the state that the disk has come to by its calls
abbrev pub state_of : DiskState → State
state_of d = after_all (stable_file d.first) d.acts

-- the bytes of the file, as a read of the disk gives them
abbrev pub seen_of : DiskState → List ℕ
seen_of d = (state_of d).seen

-- what a crash of the disk may leave now
abbrev pub images_at : DiskState → List ℕ → Type 0
images_at d c = images_of (state_of d) c

-- the moment of the disk: how many calls have changed it
abbrev pub moment_of : DiskState → ℕ
moment_of d = length d.acts

-- what a crash of the disk after the first t of the calls that changed it, or later, might have left
abbrev pub left_of : DiskState → ℕ → List ℕ → Type 0
left_of d t c = LeftSince d.first d.acts t c

-- what is left by a crash that keeps this many bytes of the later writes
abbrev pub after_crash : DiskState → ℕ → List ℕ
after_crash d keep = on_top (state_of d).stable (state_of d).later keep

-- a disk that nobody has called yet
abbrev pub new_disk : List ℕ → ℕ → List ℕ → Option ℕ → DiskState
new_disk bytes room fails stop = record { first = bytes; acts = []; room = room; list = room; fails = fails; stop = stop; calls = 0; faults = 0 }

-- the next call is listed as failing, or the disk has stopped
abbrev pub IsDown : DiskState → Type 0
IsDown d = Contains d.fails (counted d.calls) ⊎ IsSomeAnd d.stop (λ from. from ≤ counted d.calls)

-- the list of calls has too little room left for a write or sync that takes this much of it
abbrev pub IsFull : DiskState → ℕ → Type 0
IsFull d taken = d.list < taken

-- after a call that changed nothing but the counts
abbrev pub after_call : DiskState → DiskState
after_call d = record { first = d.first; acts = d.acts; room = d.room; list = d.list; fails = d.fails; stop = d.stop; calls = counted d.calls; faults = d.faults }

-- one more fault, and nothing else changed
abbrev pub after_fault : DiskState → DiskState
after_fault d = record { first = d.first; acts = d.acts; room = d.room; list = d.list; fails = d.fails; stop = d.stop; calls = d.calls; faults = counted d.faults }

-- after an act that took this much room in the list of calls
abbrev pub after_act : DiskState → Act → ℕ → DiskState
after_act d act taken = record { first = d.first; acts = d.acts ++ act ∷ []; room = d.room; list = d.list - taken; fails = d.fails; stop = d.stop; calls = d.calls; faults = d.faults }
