use Rattle.std.proofs.Common.{◌≡◌, map, length}
use Rattle.std.specs.List.{range_with_len}
use Rattle.nash_bounds.proofs.prefix.alike.Given as goal

abbrev pub invariant-loop-place : goal.invariant-loop-place
invariant-loop-place l = record {
  entries : l.entries.items ≡ map (λ _. l.points) (range_with_len 1 l._place);
  long : length l.entries.items ≡ l._place;
}
