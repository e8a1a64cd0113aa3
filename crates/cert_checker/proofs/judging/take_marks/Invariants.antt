-- The marks so far were taken.
use Rattle.std.proofs.Common.{◌≡◌, ℕ, ◌+◌, ◌-◌, ◌≤◌, ◌++◌, List}
use Rattle.std.specs.Io.KnownBytes.{Consumes}
use Rattle.cert_reader.specs.declared.limits.TheConstants.{MOST_BYTES}
use Rattle.cert_checker.specs.Lines.{IsUpTo}
use Rattle.cert_checker.proofs.judging.take_marks.Given as goal

abbrev pub invariant-marks : goal.invariant-marks
invariant-marks g l = record {
  more : List ℕ;
  took : Consumes (g.S.Source.left l.fn.source) (g.S.Source.left l.source) more;
  goes : (taken : List ℕ) → IsUpTo l.fn.pieces l.fn.lines taken → IsUpTo l.pieces l.lines (taken ++ more);
  later : l.fn.pieces.given ≤ l.pieces.given;
  few : l.pieces.given ≤ MOST_BYTES;
  faults : g.S.Source.faults l.source ≡ g.S.Source.faults l.fn.source;
  empty : g.S.Source.empty_reads l.source ≤ g.S.Source.empty_reads l.fn.source;
  beside : g.S.Source.beside l.source ≡ g.S.Source.beside l.fn.source;
}

abbrev pub decreases-marks : goal.decreases-marks
decreases-marks g l = MOST_BYTES + 1 - l.pieces.given
