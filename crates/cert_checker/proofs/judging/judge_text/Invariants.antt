-- What was read so far, and what the judge knows of it.
use Rattle.std.proofs.Common.{◌≡◌, ◌≤◌, ℕ, ◌+◌, ◌-◌, List}
use Rattle.std.specs.Io.KnownBytes.{Consumes}
use Rattle.cert_reader.specs.declared.limits.TheConstants.{MOST_BYTES}
use Rattle.cert_checker.specs.Lines.{IsUpTo}
use Rattle.cert_checker.proofs.judging.judge_text.Given as goal

abbrev pub invariant-lines : goal.invariant-lines
invariant-lines g l = record {
  taken : List ℕ;
  took : Consumes (g.S.Source.left l.fn.source) (g.S.Source.left l.source) taken;
  up_to : IsUpTo l.pieces l.lines taken;
  faults : g.S.Source.faults l.source ≡ g.S.Source.faults l.fn.source;
  empty : g.S.Source.empty_reads l.source ≤ g.S.Source.empty_reads l.fn.source;
  beside : g.S.Source.beside l.source ≡ g.S.Source.beside l.fn.source;
}

abbrev pub decreases-lines : goal.decreases-lines
decreases-lines g l = MOST_BYTES + 1 - l.pieces.given
