use Rattle.std.proofs.Common.{◌≡◌, ◌≤◌, length, map, nat_lt}
use Rattle.std.specs.List.{filter, range_with_len}
use Rattle.nash_bounds.specs.Lanes.{has}
use Rattle.estate_bounds.proofs.shares.shares_under.Given as goal

abbrev pub invariant-loop-k : goal.invariant-loop-k
invariant-loop-k l = record {
  few : length l.shares.items ≤ l.k;
  items : l.shares.items ≡ filter (nat_lt 0) (map (has l.case l.owners) (range_with_len 1 l.k));
}
