use Rattle.std.proofs.Common.{◌≡◌, ℕ, ◌<◌, false, map}
use Rattle.split_frac.specs.Frac.{fraction_of}
use Rattle.winner_rules.specs.Split.{split_at}
use Rattle.winner_rules.proofs.shares.parts_of.Given as goal

abbrev pub invariant-loop-k : goal.invariant-loop-k
invariant-loop-k l = (place : ℕ) → place < l.k → split_at (map fraction_of l.shares) place ≡ false
