-- The list so far has the numbers so far, each in the range.
use Rattle.std.proofs.Common.{◌≡◌, length, map, take, unsigned_abs}
use Rattle.rule_verdicts.specs.Ranges.{AreBetween}
use Rattle.rule_verdicts.proofs.members.members_between.Given as goal

abbrev pub invariant-loop-k : goal.invariant-loop-k
invariant-loop-k g l = record {
  count : length l.members.items ≡ l.k;
  items : l.members.items ≡ map unsigned_abs (take l.k l.numbers);
  range : AreBetween l.least l.most (take l.k l.numbers);
}
