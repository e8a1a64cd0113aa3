use Rattle.std.proofs.Common.{◌≡◌, ℕ, length, map}
use Rattle.std.specs.List.{range_with_len}
use Rattle.nash_bounds.specs.Lanes.{by_lane}
use Rattle.estate_bounds.specs.Units.{in_units}
use Rattle.estate_bounds.proofs.units.in_units.Given as goal

abbrev pub invariant-loop-k : goal.invariant-loop-k
invariant-loop-k l = record {
  long : length l.list.items ≡ l.k;
  items : (f : ℕ → ℕ) → l.fn.numbers ≡ by_lane f → l.list.items ≡ in_units l.unit (map f (range_with_len 1 l.k));
}
