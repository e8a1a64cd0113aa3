-- The lines that were gathered so far.
use Rattle.std.proofs.Common.{◌≡◌, ◌≤◌, ℕ, ◌-◌, List, false, map}
use Rattle.std.specs.Io.KnownBytes.{Consumes}
use Rattle.cert_reader.specs.Forms.{Pairs}
use Rattle.cert_reader.specs.Gathered.{line_said}
use Rattle.cert_reader.specs.Reading.{HasLineToCome, IsReadOf, as_reading}
use Rattle.cert_reader.specs.declared.limits.TheConstants.{PAIR_LINES}
use Rattle.cert_reader.proofs.pair_reading.read_pair.Given as goal

abbrev pub invariant-lines : goal.invariant-lines
invariant-lines g l = record {
  taken : List ℕ;
  took : Consumes (g.S.Source.left l.initial.source) (g.S.Source.left l.source) taken;
  read : IsReadOf Pairs (as_reading l.text false) taken (map line_said l.lines.items);
  to_come : HasLineToCome (as_reading l.text false);
  faults : g.S.Source.faults l.source ≡ g.S.Source.faults l.initial.source;
  empty : g.S.Source.empty_reads l.source ≤ g.S.Source.empty_reads l.initial.source;
  beside : g.S.Source.beside l.source ≡ g.S.Source.beside l.initial.source;
}

abbrev pub decreases-lines : goal.decreases-lines
decreases-lines g l = PAIR_LINES - l.text.lines
