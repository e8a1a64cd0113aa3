-- Whether groups of riders pay more than a ride of their own would cost: the excess of each group (Davis and Maschler 1965), how many groups have an excess
-- above 0, and which group has the greatest.
use Rattle.std.specs.Prelude.{◌≡◌, ℕ, pos, ◌-◌, ◌^◌, ◌<◌, ◌≤◌, ◌-ℤ◌, ◌*ℤ◌, ◌<ℤ◌, List, Bool, IsTrue, Option, None, Some, length, map, count_by, slice_index_or}
use Rattle.std.specs.Int.{is_positive}
use Rattle.std.specs.List.{range_with_len}
use Rattle.bid_rules.specs.declared.cases.FareCase.{FareCase}
use Rattle.bid_rules.specs.Coalitions.{riders_in}
use Rattle.bid_rules.specs.Fares.{coalition_cost}
use Rattle.bid_rules.specs.Fractions.{Fraction, sum_of_fractions}
use Rattle.split_frac.specs.Frac.{HasValue}
use Rattle.fare_audit.specs.declared.audit.FareAudit.{FareAudit}
use Rattle.fare_audit.specs.declared.audit.Worst.{Worst}

-- how many groups of riders there are: all sets except the empty one
abbrev pub group_count : FareCase → ℕ
group_count case = 2 ^ length case.at.items - 1

-- all groups, by the numbers of their sets
abbrev pub groups_of : FareCase → List ℕ
groups_of case = range_with_len 1 (group_count case)

-- the fare of a rider
abbrev pub fare_of : List Fraction → ℕ → Fraction
fare_of fares rider = slice_index_or fares (rider - 1) (pos 0, 1)

-- a fraction less a whole number
abbrev pub less_whole : Fraction → ℕ → Fraction
less_whole fraction whole = (fraction.0 -ℤ pos whole *ℤ pos fraction.1, fraction.1)

-- the excess of a group: the sum of the fares of its riders, less what a ride of their own would cost
abbrev pub excess_of : FareCase → List Fraction → ℕ → Fraction
excess_of case fares set = less_whole (sum_of_fractions (map (fare_of fares) (riders_in set))) (coalition_cost case (riders_in set))

-- whether the group pays more than a ride of its own would cost
abbrev pub overpays : FareCase → List Fraction → ℕ → Bool
overpays case fares set = is_positive (excess_of case fares set).0

-- this is the number of a group
abbrev pub IsGroup : FareCase → ℕ → Type 0
IsGroup case set = (1 ≤ set) × (set ≤ group_count case)

-- the first fraction is less than the second
abbrev pub IsBelow : Fraction → Fraction → Type 0
IsBelow a b = (a.0 *ℤ pos b.1) <ℤ (b.0 *ℤ pos a.1)

-- the group overpays, this is its excess, no group has a greater one, and no group of a lower number has the same
pub record IsWorst (case : FareCase) (fares : List Fraction) (worst : Worst) : Type 0 where
  pub group : IsGroup case worst.set
  pub above : IsTrue (overpays case fares worst.set)
  pub value : HasValue worst.excess (excess_of case fares worst.set).0 (excess_of case fares worst.set).1
  pub greatest : (other : ℕ) → IsGroup case other → IsBelow (excess_of case fares worst.set) (excess_of case fares other) → ⊥
  pub lowest : (other : ℕ) → IsGroup case other → other < worst.set → IsBelow (excess_of case fares other) (excess_of case fares worst.set)

-- the worst group, or none if no group overpays
abbrev pub IsWorstOf : FareCase → List Fraction → Option Worst → Type 0
IsWorstOf case fares None = (set : ℕ) → IsGroup case set → IsTrue (overpays case fares set) → ⊥
IsWorstOf case fares (Some worst) = IsWorst case fares worst

-- the audit of fares: how many groups overpay, and the worst group
pub record IsFareAudit (case : FareCase) (fares : List Fraction) (audit : FareAudit) : Type 0 where
  pub count : audit.groups ≡ count_by (overpays case fares) (groups_of case)
  pub worst : IsWorstOf case fares audit.worst
