-- How the C functions that solve cases of numbers hand out what each person pays, in whole cents in place of exact amounts.
use Rattle.std.specs.Prelude.{◌≡◌, ◌≤◌, ◌<◌, ◌⊎◌, ℕ, ℤ, pos, List, length, take}
use Rattle.bid_rules.specs.Cents.{IsCentPlan, prices_by_member}
use Rattle.bid_rules.specs.Fares.{FareBest, coalition_cost, riders_of}
use Rattle.bid_rules.specs.Fractions.{Fraction}
use Rattle.bid_rules.specs.Rent.{RentBest}
use Rattle.bid_rules.specs.declared.cases.FareCase.{FareCase}
use Rattle.bid_rules.specs.declared.rents.RentCase.{RentCase}
use Rattle.number_cases.specs.Cases.{AreFare, AreRent, fare_in, rent_in}
use Rattle.number_cases.specs.Fields.{IsFareField, IsRentField}
use Rattle.number_cases.specs.Handing.{Refuses}

-- what each member pays: the cent plan of the prices of the members' rooms in the best division, which sums to the rent
abbrev pub IsRentPlan : RentCase → List ℤ → Type 0
IsRentPlan case plan = (rooms : List ℕ) × (prices : List Fraction) × RentBest case rooms prices × IsCentPlan (prices_by_member rooms prices) (pos case.facts.rent) plan

-- what each rider pays: the cent plan of the best fares, which sums to the cost of all riders
abbrev pub IsFarePlan : FareCase → List ℤ → Type 0
IsFarePlan case plan = (fares : List Fraction) × (route : List ℕ) × FareBest case fares route × IsCentPlan fares (pos (coalition_cost case (riders_of case))) plan

-- the size is how many amounts there are; a list with room for them begins with them, and one without is as it was
abbrev pub AreCopied : List ℤ → ℕ → List ℤ → List ℤ → Type 0
AreCopied plan size before after = (size ≡ length plan) × (length plan ≤ length before → take size after ≡ plan) × (length before < length plan → after ≡ before)

-- the numbers are a valid rent, and what each member pays is handed out; or they are not, and the field is named
abbrev pub IsRentPlanReply : ℕ → ℕ → List ℕ → ℕ → ℕ → List ℤ → List ℤ → List ℕ → List ℕ → Type 0
IsRentPlanReply members rent values status size before after text_before text_after =
    ((status ≡ 0) × AreRent members rent values × ((plan : List ℤ) × IsRentPlan (rent_in members rent values) plan × AreCopied plan size before after) × (text_after ≡ text_before))
    ⊎ ((AreRent members rent values → ⊥) × Refuses (IsRentField members rent) status size text_before text_after × (after ≡ before))

-- the numbers are a valid fare, and what each rider pays is handed out; or they are not, and the field is named
abbrev pub IsFarePlanReply : ℕ → ℕ → List ℕ → List ℕ → List ℕ → ℕ → ℕ → List ℤ → List ℤ → List ℕ → List ℕ → Type 0
IsFarePlanReply places flag legs who at status size before after text_before text_after =
    ((status ≡ 0) × AreFare places flag legs who at × ((plan : List ℤ) × IsFarePlan (fare_in places flag legs who at) plan × AreCopied plan size before after) × (text_after ≡ text_before))
    ⊎ ((AreFare places flag legs who at → ⊥) × Refuses (IsFareField places flag legs) status size text_before text_after × (after ≡ before))
