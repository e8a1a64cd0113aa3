use Rattle.std.proofs.Common.{ℕ, ◌<◌, ◌≤◌, IsTrue}
use Rattle.prefix_trees.specs.Ahead.{has_tree}
use Rattle.estate_checker.proofs.judging.leaves_verdict.Given as goal

abbrev pub invariant-loop-rule : goal.invariant-loop-rule
invariant-loop-rule l = (number : ℕ) → 6 ≤ number → number < l.rule → IsTrue (has_tree l.walk number)
