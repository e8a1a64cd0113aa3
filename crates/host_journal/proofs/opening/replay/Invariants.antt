-- So far no byte was changed, and the events up to the log's gate were applied.
use Rattle.std.proofs.Common.{◌≡◌, ◌≤◌, ◌-◌, ◌^◌, ◌↔◌, List, ℕ}
use Rattle.split_base.specs.Disk.{Rests}
use Rattle.sealed_core.specs.Host.{EventView, HasRoom}
use Rattle.host_journal.specs.Journal.{IsHostOf, IsHostWithFile, IsReplaying}
use Rattle.host_journal.proofs.opening.replay.Given as goal

abbrev pub invariant-loop : goal.invariant-loop
invariant-loop g l = record {
  room : HasRoom l.host;
  count : g.D.Disk.faults l.initial.disk ≤ g.D.Disk.faults l.disk;
  faults : g.D.Disk.faults l.disk ≡ g.D.Disk.faults l.initial.disk;
  tick : g.D.Disk.is_honest l.initial.disk → g.D.Disk.moment l.disk ≡ g.D.Disk.moment l.initial.disk;
  honest : g.D.Disk.is_honest l.initial.disk ↔ g.D.Disk.is_honest l.disk;
  rests : g.D.Disk.is_honest l.initial.disk → Rests g.D.Disk.seen g.D.Disk.images g.D.Disk.moment g.D.Disk.left_since l.initial.disk l.disk;
  still : g.D.Disk.tells l.initial.disk → g.D.Disk.tells l.disk × (g.D.Disk.seen l.disk ≡ g.D.Disk.seen l.initial.disk);
  replaying : g.D.Disk.tells l.initial.disk → (secret : List ℕ) (events : List EventView) → IsReplaying (g.D.Disk.seen l.initial.disk) l.initial.log l.initial.host.content secret events
      → (all : List EventView) × IsReplaying (g.D.Disk.seen l.disk) l.log l.host.content secret all;
  made : (secret : List ℕ) (events : List EventView) → IsHostOf l.initial.host.content secret events → (all : List EventView) × IsHostWithFile l.host.content secret all
      (g.D.Disk.tells l.initial.disk → IsReplaying (g.D.Disk.seen l.initial.disk) l.initial.log l.initial.host.content secret events → IsReplaying (g.D.Disk.seen l.disk) l.log l.host.content secret all);
}

abbrev pub decreases-loop : goal.decreases-loop
decreases-loop g l = 2 ^ 63 - l.log.place
