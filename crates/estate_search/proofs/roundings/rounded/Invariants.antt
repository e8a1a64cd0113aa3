use Rattle.std.proofs.Common.{◌≡◌, ◌≤◌, All, length}
use Rattle.estate_search.proofs.roundings.rounded.Given as goal

abbrev pub invariant-loop-k : goal.invariant-loop-k
invariant-loop-k l = record {
  each : length l.weights.items ≡ l.k;
  some : All (λ weight. 1 ≤ weight) l.weights.items;
}
