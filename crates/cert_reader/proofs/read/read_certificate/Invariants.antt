-- What was gathered so far.
use Rattle.std.proofs.Common.{◌≡◌, ◌≤◌, ℕ, ◌+◌, ◌-◌, List}
use Rattle.std.specs.Io.KnownBytes.{Consumes}
use Rattle.cert_reader.specs.Reading.{HasLineToCome}
use Rattle.cert_reader.specs.Whole.{IsGathering}
use Rattle.cert_reader.specs.declared.limits.TheConstants.{MOST_BYTES}
use Rattle.cert_reader.proofs.read.read_certificate.Given as goal

abbrev pub invariant-pieces : goal.invariant-pieces
invariant-pieces g l = record {
  taken : List ℕ;
  took : Consumes (g.S.Source.left l.initial.source) (g.S.Source.left l.source) taken;
  gathering : IsGathering l.pieces taken l.lines.items l.marks.items;
  to_come : HasLineToCome l.pieces;
  faults : g.S.Source.faults l.source ≡ g.S.Source.faults l.initial.source;
  empty : g.S.Source.empty_reads l.source ≤ g.S.Source.empty_reads l.initial.source;
  beside : g.S.Source.beside l.source ≡ g.S.Source.beside l.initial.source;
}

abbrev pub decreases-pieces : goal.decreases-pieces
decreases-pieces g l = MOST_BYTES + 1 - l.pieces.given
