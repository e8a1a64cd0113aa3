use Rattle.std.proofs.Common.{◌≡◌, ◌≤◌, ℕ, ℤ, ◌<◌, List, length, map}
use Rattle.bid_rules.specs.Cents.{amount_at}
use Rattle.bid_rules.specs.Fractions.{IsQuotient}
use Rattle.bid_rules.specs.Rent.{HasParts, utility}
use Rattle.split_frac.specs.Frac.{fraction_of}
use Rattle.split_reports.proofs.rent.utilities_of.Given as goal

abbrev pub invariant-loop-member : goal.invariant-loop-member
invariant-loop-member l = record {
  count : length l.utilities.items ≡ l.member;
  each : (i : ℕ) → i < l.member → (k : ℕ) (parts : List ℤ) → 1 ≤ k → HasParts (map fraction_of l.prices) k parts
      → IsQuotient (amount_at (map fraction_of l.utilities.items) i) (utility l.case k l.rooms parts i) k;
}
