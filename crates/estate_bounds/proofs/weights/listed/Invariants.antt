use Rattle.std.proofs.Common.{◌≡◌, length, take}
use Rattle.estate_bounds.proofs.weights.listed.Given as goal

abbrev pub invariant-loop-weight : goal.invariant-loop-weight
invariant-loop-weight l = record {
  long : length l.list.items ≡ l.weight-index;
  items : l.list.items ≡ take l.weight-index l.weights;
}
