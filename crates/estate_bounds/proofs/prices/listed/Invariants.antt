use Rattle.std.proofs.Common.{◌≡◌, length, take}
use Rattle.estate_bounds.proofs.prices.listed.Given as goal

abbrev pub invariant-loop-number : goal.invariant-loop-number
invariant-loop-number l = record {
  long : length l.list.items ≡ l.number-index;
  items : l.list.items ≡ take l.number-index l.numbers;
}
