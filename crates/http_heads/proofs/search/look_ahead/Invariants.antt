-- The carry and the source hold what they held, no head is in the carry, and the parser asks for more of it.
use Rattle.std.proofs.Common.{◌≡◌, ◌+◌, ◌++◌, ◌<◌, ◌≤◌, ℕ, List, length}
use Rattle.std.specs.Io.KnownBytes.{Keeps, prepend_known}
use Rattle.http_heads.specs.declared.limits.TheConstants.{MAX_HEAD}
use Rattle.http_heads.specs.Search.{HasNone}
use Rattle.http_heads.proofs.search.look_ahead.Given as goal

abbrev pub invariant-loop-room : goal.invariant-loop-room
invariant-loop-room g l = record {
  room : l.room + length l.carry ≡ MAX_HEAD;
  more : (read : List ℕ) × (l.carry ≡ l.initial.carry ++ read);
  none : 0 < length l.carry → HasNone g.K.HeadKind.IsText l.carry;
  asks : 0 < length l.carry → g.K.HeadKind.AsksMore l.carry;
  same : Keeps (prepend_known l.initial.carry (g.S.Source.left l.initial.source)) (prepend_known l.carry (g.S.Source.left l.source));
  empty : g.S.Source.empty_reads l.source ≤ g.S.Source.empty_reads l.initial.source;
  count : g.S.Source.faults l.source ≡ g.S.Source.faults l.initial.source;
  beside : g.S.Source.beside l.source ≡ g.S.Source.beside l.initial.source;
}

abbrev pub decreases-loop-room : goal.decreases-loop-room
decreases-loop-room g l = l.room
