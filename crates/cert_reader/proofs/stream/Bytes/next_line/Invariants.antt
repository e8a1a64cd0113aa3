-- What was given out of the line so far.
use Rattle.std.proofs.Common.{◌≡◌, ℕ, ◌+◌, ◌-◌, ◌≤◌, List, length}
use Rattle.cert_reader.proofs.Handed.{KeptSoFar}
use Rattle.cert_reader.specs.declared.limits.TheConstants.{LONGEST_LINE, MOST_BYTES}
use Rattle.cert_reader.proofs.stream.Bytes.next_line.Given as goal

abbrev pub invariant-line : goal.invariant-line
invariant-line g l = record {
  text : List ℕ;
  so_far : KeptSoFar l.initial.self l.self (g.S.Source.left l.initial.source) (g.S.Source.left l.source) l.long text;
  short : length l.self.line ≤ LONGEST_LINE;
  faults : g.S.Source.faults l.source ≡ g.S.Source.faults l.initial.source;
  empty : g.S.Source.empty_reads l.source ≤ g.S.Source.empty_reads l.initial.source;
  beside : g.S.Source.beside l.source ≡ g.S.Source.beside l.initial.source;
}

abbrev pub decreases-line : goal.decreases-line
decreases-line g l = MOST_BYTES + 1 - l.self.given
