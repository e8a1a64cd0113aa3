use Rattle.std.proofs.Common.{ℕ, ◌≤◌, ◌<◌}
use Rattle.prefix_trees.specs.Ranks.{number_of}
use Rattle.prefix_trees.proofs.twin.nowhere_above.Given as goal

abbrev pub invariant-loop-player : goal.invariant-loop-player
invariant-loop-player l = (player : ℕ) → 1 ≤ player → player < l.player → number_of l.lows player ≤ number_of l.highs player
