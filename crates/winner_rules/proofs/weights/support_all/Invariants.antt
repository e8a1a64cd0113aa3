use Rattle.std.proofs.Common.{ℕ, pos, ◌*◌, ◌≤◌, ◌<ℤ◌, map}
use Rattle.bid_rules.specs.Goods.{points}
use Rattle.winner_definition.specs.Shown.{share_of}
use Rattle.split_frac.specs.Frac.{fraction_of}
use Rattle.winner_rules.proofs.weights.support_all.Given as goal

abbrev pub invariant-loop-k : goal.invariant-loop-k
invariant-loop-k l = (good : ℕ) → 1 ≤ good → good ≤ l.k
    → (pos 0 <ℤ (share_of (map fraction_of l.shares) good).0 → l.second * points l.case 2 good ≤ l.first * points l.case 1 good)
    × ((share_of (map fraction_of l.shares) good).0 <ℤ pos (share_of (map fraction_of l.shares) good).1 → l.first * points l.case 1 good ≤ l.second * points l.case 2 good)
