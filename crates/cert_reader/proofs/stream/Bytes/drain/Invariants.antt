-- What was dropped so far.
use Rattle.std.proofs.Common.{◌≡◌, ◌≤◌, ℕ, ◌+◌, ◌-◌, List}
use Rattle.cert_reader.specs.Stream.{Hands}
use Rattle.cert_reader.specs.declared.limits.TheConstants.{MOST_BYTES}
use Rattle.cert_reader.proofs.stream.Bytes.drain.Given as goal

abbrev pub invariant-bytes : goal.invariant-bytes
invariant-bytes g l = record {
  text : List ℕ;
  handed : Hands l.initial.self l.self (g.S.Source.left l.initial.source) (g.S.Source.left l.source) text;
  faults : g.S.Source.faults l.source ≡ g.S.Source.faults l.initial.source;
  empty : g.S.Source.empty_reads l.source ≤ g.S.Source.empty_reads l.initial.source;
  beside : g.S.Source.beside l.source ≡ g.S.Source.beside l.initial.source;
}

abbrev pub decreases-bytes : goal.decreases-bytes
decreases-bytes g l = MOST_BYTES + 1 - l.self.given
