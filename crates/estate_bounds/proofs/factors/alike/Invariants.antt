use Rattle.std.proofs.Common.{◌≡◌, length}
use Rattle.std.specs.Prelude.{replicate}
use Rattle.estate_bounds.proofs.factors.alike.Given as goal

abbrev pub invariant-loop-place : goal.invariant-loop-place
invariant-loop-place l = record {
  long : length l.list.items ≡ l._place;
  items : l.list.items ≡ replicate l._place l.number;
}
