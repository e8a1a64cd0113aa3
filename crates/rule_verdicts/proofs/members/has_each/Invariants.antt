-- Each number so far is among them.
use Rattle.std.proofs.Common.{ℕ, ◌+◌, ◌<◌, Contains}
use Rattle.rule_verdicts.proofs.members.has_each.Given as goal

abbrev pub invariant-loop-number : goal.invariant-loop-number
invariant-loop-number l = (i : ℕ) → i < l.number → Contains l.numbers (i + 1)
