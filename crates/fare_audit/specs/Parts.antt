-- Excesses in whole parts of a cent, over one common denominator, in which they are added and compared.
use Rattle.std.specs.Prelude.{◌≡◌, ◌⊎◌, ℕ, ℤ, pos, ◌-◌, ◌*◌, ◌+◌, ◌<◌, ◌≤◌, ◌-ℤ◌, ◌*ℤ◌, ◌<ℤ◌, ◌≤ℤ◌, List, count_by, slice_index_or, unsigned_abs}
use Rattle.std.specs.Int.{is_positive, ◌∣◌}
use Rattle.std.specs.List.{range_with_len}
use Rattle.bid_rules.specs.declared.cases.FareCase.{FareCase}
use Rattle.bid_rules.specs.declared.limits.TheConstants.{MOST_FARE_CENTS, MOST_RIDERS}
use Rattle.bid_rules.specs.Coalitions.{riders_in}
use Rattle.bid_rules.specs.Fares.{coalition_cost}
use Rattle.bid_rules.specs.Orders.{factorial}
use Rattle.bid_rules.specs.Sums.{total}
use Rattle.split_frac.specs.declared.frac.Frac.{Frac}

-- the fare is a whole number of these parts of a cent, and no more than the flag fall and a leg for each rider
pub record IsInParts (parts : ℕ) (fare : Frac) : Type 0 where
  pub whole : fare.den ∣ parts
  pub size : unsigned_abs fare.num ≤ MOST_FARE_CENTS * (MOST_RIDERS + 1) * fare.den

-- a fare or a cost has at most this many parts
abbrev pub IsSmallPart : ℤ → Type 0
IsSmallPart part = unsigned_abs part ≤ MOST_FARE_CENTS * (MOST_RIDERS + 1) * factorial MOST_RIDERS

-- the fare of a rider, in parts
abbrev pub part_at : List ℤ → ℕ → ℤ
part_at parts rider = slice_index_or parts (rider - 1) (pos 0)

-- the excess of a group, in parts
abbrev pub excess_in_parts : FareCase → List ℤ → ℕ → ℕ → ℤ
excess_in_parts case parts denominator set = total (part_at parts) (riders_in set) -ℤ pos (coalition_cost case (riders_in set)) *ℤ pos denominator

-- among the groups before the end, no excess is above 0, and the group and the greatest excess are 0; or this group is the first with the greatest excess,
-- which is above 0
pub record IsFirstGreatest (excess : ℕ → ℤ) (end set : ℕ) (most : ℤ) : Type 0 where
  pub bound : (other : ℕ) → 1 ≤ other → other < end → excess other ≤ℤ most
  pub first : (other : ℕ) → 1 ≤ other → other < set → excess other <ℤ most
  pub reached : (set ≡ 0) × (most ≡ pos 0) ⊎ (1 ≤ set) × (set < end) × (excess set ≡ most) × (pos 0 <ℤ most)

-- how many groups before the end have an excess above 0
abbrev pub count_below : (ℕ → ℤ) → ℕ → ℕ
count_below excess end = count_by (λ set. is_positive (excess set)) (range_with_len 1 (end - 1))
