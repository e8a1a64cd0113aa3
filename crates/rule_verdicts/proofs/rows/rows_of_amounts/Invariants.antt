-- The rows so far are read, each number in the range.
use Rattle.std.proofs.Common.{◌≡◌, length, map, take, All, unsigned_abs}
use Rattle.rule_verdicts.specs.Ranges.{AreBetween}
use Rattle.rule_verdicts.proofs.rows.rows_of_amounts.Given as goal

abbrev pub invariant-loop-k : goal.invariant-loop-k
invariant-loop-k g l = record {
  count : length l.read.items ≡ l.k;
  items : l.read.items ≡ map (λ row. record { items = map unsigned_abs row.items }) (take l.k l.rows);
  range : All (λ row. AreBetween 0 l.most row.items) (take l.k l.rows);
}
