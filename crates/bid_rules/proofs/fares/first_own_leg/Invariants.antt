use Rattle.std.proofs.Common.{◌≡◌, ℕ, ◌<◌, ◌≤◌}
use Rattle.bid_rules.specs.Facts.{leg}
use Rattle.bid_rules.proofs.fares.first_own_leg.Given as goal

abbrev pub invariant-loop-place : goal.invariant-loop-place
invariant-loop-place l = (p : ℕ) → 1 ≤ p → p < l.place → leg l.facts p p ≡ 0
