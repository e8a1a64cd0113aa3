-- The row so far has the numbers so far, each in the range.
use Rattle.std.proofs.Common.{◌≡◌, length, map, take, unsigned_abs}
use Rattle.rule_verdicts.specs.Ranges.{AreBetween}
use Rattle.rule_verdicts.proofs.rows.amounts.Given as goal

abbrev pub invariant-loop-k : goal.invariant-loop-k
invariant-loop-k g l = record {
  count : length l.row.items ≡ l.k;
  items : l.row.items ≡ map unsigned_abs (take l.k l.numbers);
  range : AreBetween 0 l.most (take l.k l.numbers);
}
