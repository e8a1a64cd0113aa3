-- How a disk in memory keeps its calls.
use Rattle.std.specs.Prelude.{◌≡◌, ◌+◌, ◌/◌, ◌≤◌, vec_len, vec_capacity}
use Rattle.split_base.specs.declared.memory.disk.MemDisk.TheInside.{Inside}
use Rattle.split_base.specs.declared.memory.disk.TheConstants.{CALL_SIZE}
use Rattle.split_base.specs.Past.{DiskState, state_of, seen_of, total}
use Rattle.split_base.specs.Replay.{acts_of, bytes_of}

-- what contracts see of the disk that this object keeps
abbrev pub disk_view : Inside → DiskState
disk_view d = record {
  first = d.first.items;
  acts = acts_of d.acts.items d.bytes.items;
  room = d.room;
  list = d.list;
  fails = d.calls.fails.items;
  stop = d.stop;
  calls = d.calls.made;
  faults = d.calls.faults;
}

-- what the object keeps is what its calls give, and there is memory for the rest of its room
pub record MatchesCalls (d : Inside) : Type 0 where
  pub file : d.file.items ≡ seen_of (disk_view d)
  pub fits : vec_len d.file ≤ d.room
  pub room : d.room ≤ vec_capacity d.file
  pub bytes : bytes_of d.acts.items ≡ vec_len d.bytes
  pub stable : d.stable + total (state_of (disk_view d)).later ≡ vec_len d.bytes
  pub bytes_room : vec_len d.bytes + d.list ≤ vec_capacity d.bytes
  pub acts_room : vec_len d.acts + d.list / CALL_SIZE ≤ vec_capacity d.acts
