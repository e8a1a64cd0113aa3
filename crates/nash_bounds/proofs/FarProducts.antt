-- A product of entries at a level that stays below another.
use Rattle.std.proofs.Common.{◌≡◌, ℕ, suc, zero, ◌+◌, ◌*◌, ◌-◌, ◌<◌, ◌≤◌, List, sum, arith, ap, inl, inr}
use Rattle.std.specs.List.{AllZip}
use Rattle.std.proofs.lemmas.Bool.{cases_lt}
use Rattle.std.proofs.Math.Nat.{mul-le-mul_right, le_of_mul-le-mul_right}
use Rattle.bid_rules.specs.Pairs.{positives, product}
use Rattle.nash_bounds.specs.Levels.{entries_at_level}
use Rattle.nash_bounds.proofs.LevelReach.{slack}

-- the numbers of the test by units: a product u is below P
pub below_units : (u d e C' C c n p P q M : ℕ) → 0 < M → p * M ≤ P → u * d ≤ C' * e → C' * c ≡ C * n → C < q * M → q * (n * e) < p * (c * d) → u < P
below_units u d e C' C c n p P q M some units near ratio above test =
    elim (cases_lt u P) [
      | inl l ↦ l
      | inr l ↦ absurd (
          let a1 : p * M * d ≤ u * d = mul-le-mul_right d (let h : p * M ≤ u = omega arith in h) in
          let a2 : p * M * d ≤ C' * e = omega arith in
          let a3 : p * M * d * c ≤ C' * e * c = mul-le-mul_right c a2 in
          let a4 : C' * e * c ≡ C' * c * e = omega arith in
          let a5 : C' * c * e ≡ C * n * e = ap (λ z. z * e) ratio in
          let a6 : C * (n * e) ≤ q * M * (n * e) = mul-le-mul_right (n * e) (let h : C ≤ q * M = omega arith in h) in
          let a7 : C * n * e ≡ C * (n * e) = omega arith in
          let a8 : p * M * d * c ≡ p * (c * d) * M = omega arith in
          let a9 : q * M * (n * e) ≡ q * (n * e) * M = omega arith in
          let b : p * (c * d) * M ≤ q * (n * e) * M = omega arith in
          let b' : p * (c * d) ≤ q * (n * e) = le_of_mul-le-mul_right b some in
          omega arith)
    ]

-- a list with as many positive entries and at most s points more than those at the level has at most their product times (2 * level + s) / (2 * level - s)
pub slack_at : (level s : ℕ) (lows highs us : List ℕ) → 1 ≤ level → AllZip ◌≤◌ lows highs → AllZip ◌≤◌ lows us → AllZip ◌≤◌ us highs → positives us ≡ positives (entries_at_level level 0 lows highs)
    → sum us ≤ sum (entries_at_level level 0 lows highs) + s → s < 2 * level → product us * (2 * level - s) ≤ product (entries_at_level level 0 lows highs) * (2 * level + s)
slack_at zero s lows highs us one order above below same fits few = absurd (omega arith)
slack_at (suc m) s lows highs us one order above below same fits few = slack m s lows highs us order above below same fits few
