use Rattle.std.proofs.Common.{take}
use Rattle.rule_verdicts.specs.Ranges.{AreBetween}
use Rattle.estate_checker.proofs.ranges.are_between.Given as goal

abbrev pub invariant-loop-k : goal.invariant-loop-k
invariant-loop-k l = AreBetween l.least l.most (take l.k l.numbers)
