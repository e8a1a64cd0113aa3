-- The bytes so far were there.
use Rattle.std.proofs.Common.{◌≡◌, ◌≤◌, take}
use Rattle.cert_reader.specs.Stream.{Hands, taken_count}
use Rattle.cert_reader.specs.declared.limits.TheConstants.{MOST_BYTES}
use Rattle.cert_reader.proofs.stream.Bytes.take_front.Given as goal

abbrev pub invariant-loop-expected : goal.invariant-loop-expected
invariant-loop-expected g l = record {
  handed : Hands l.initial.self l.self (g.S.Source.left l.initial.source) (g.S.Source.left l.source) (take l.expected-index l.front);
  few : 1 ≤ l.expected-index → taken_count l.self ≤ MOST_BYTES;
  faults : g.S.Source.faults l.source ≡ g.S.Source.faults l.initial.source;
  empty : g.S.Source.empty_reads l.source ≤ g.S.Source.empty_reads l.initial.source;
  beside : g.S.Source.beside l.source ≡ g.S.Source.beside l.initial.source;
}
