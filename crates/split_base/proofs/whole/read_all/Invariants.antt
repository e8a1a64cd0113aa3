-- What was read so far is what the source gave.
use Rattle.std.proofs.Common.{◌≤◌, ◌≡◌, ◌-◌, vec_len}
use Rattle.std.specs.Io.KnownBytes.{Consumes}
use Rattle.split_base.proofs.whole.read_all.Given as goal

abbrev pub invariant-loop-bytes : goal.invariant-loop-bytes
invariant-loop-bytes g l = record {
  within : vec_len l.bytes ≤ l.most;
  so_far : Consumes (g.S.Source.left l.initial.source) (g.S.Source.left l.source) l.bytes.items;
  empty : g.S.Source.empty_reads l.source ≤ g.S.Source.empty_reads l.initial.source;
  count : g.S.Source.faults l.source ≡ g.S.Source.faults l.initial.source;
  beside : g.S.Source.beside l.source ≡ g.S.Source.beside l.initial.source;
}

abbrev pub decreases-loop-bytes : goal.decreases-loop-bytes
decreases-loop-bytes g l = l.most - vec_len l.bytes
