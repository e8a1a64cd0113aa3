use Rattle.std.proofs.Common.{◌≡◌, length, map, take, unsigned_abs}
use Rattle.rule_verdicts.specs.Ranges.{AreBetween}
use Rattle.estate_judge.specs.declared.limits.TheConstants.{MOST_WEIGHT}
use Rattle.estate_judge.proofs.lines.small_weights.Given as goal

abbrev pub invariant-loop-k : goal.invariant-loop-k
invariant-loop-k l = record {
  count : length l.list.items ≡ l.k;
  items : l.list.items ≡ map unsigned_abs (take l.k l.numbers);
  range : AreBetween 1 MOST_WEIGHT (take l.k l.numbers);
}
