-- For the laws that follow from the definition of the best fares: tables of what routes cost, by the place of departure and the set of riders.
use Rattle.std.specs.Prelude.{◌≡◌, ℕ, ◌+◌, ◌-◌, ◌^◌, ◌<◌, ◌≤◌, List, [], ◌∷◌, map, Contains}
use Rattle.bid_rules.specs.declared.cases.FareCase.{FareCase}
use Rattle.bid_rules.specs.Coalitions.{riders_in, start_of}
use Rattle.bid_rules.specs.Facts.{leg}
use Rattle.bid_rules.specs.Fares.{least, place_of, route_cost}

-- the number of a set of riders without one of them
abbrev pub without : ℕ → ℕ → ℕ
without set rider = set - 2 ^ (rider - 1)

-- what the route of a set costs from a place if this rider gets off first: the leg to the rider's place, and the route of the others from there
abbrev pub cost_by : FareCase → ℕ → ℕ → ℕ → ℕ
cost_by case from set rider = leg case.facts from (place_of case rider) + route_cost case (place_of case rider) (riders_in (without set rider))

-- what the table gives if this rider gets off first: the leg to the rider's place, and the entry for the others from there
abbrev pub entry_by : FareCase → (ℕ → ℕ → ℕ) → ℕ → ℕ → ℕ → ℕ
entry_by case entry at set rider = leg case.facts (start_of case at) (place_of case rider) + entry rider (without set rider)

-- the table of what routes cost, by departure (0 for the origin, any other number for that rider's place) and by the number of the set
abbrev pub costs_from : FareCase → ℕ → ℕ → ℕ
costs_from case at set = route_cost case (start_of case at) (riders_in set)

-- a set of some of the first n riders, and a departure for it: the origin, or the place of a rider who is not in the set
pub record IsDeparture (n at set : ℕ) : Type 0 where
  pub some : 0 < set
  pub within : set < 2 ^ n
  pub known : at ≤ n
  pub outside : Contains (riders_in set) at → ⊥

-- each entry of the table is the least, over the riders of the set, of the leg to that rider plus the entry for the others from there, and the entry
-- for no riders is 0
pub record AreEntries (case : FareCase) (n : ℕ) (entry : ℕ → ℕ → ℕ) : Type 0 where
  pub none : (at : ℕ) → entry at 0 ≡ 0
  pub each : (at set : ℕ) → IsDeparture n at set → entry at set ≡ least (map (entry_by case entry at set) (riders_in set))

-- each rider of the route is the lowest of those still on board who attain the entry of the table
abbrev pub IsLowestRoute : FareCase → (ℕ → ℕ → ℕ) → ℕ → ℕ → List ℕ → Type 0
IsLowestRoute case entry at set [] = set ≡ 0
IsLowestRoute case entry at set (rider ∷ riders) =
    Contains (riders_in set) rider × (entry_by case entry at set rider ≡ entry at set)
    × ((other : ℕ) → Contains (riders_in set) other → entry_by case entry at set other ≡ entry at set → rider ≤ other)
    × IsLowestRoute case entry rider (without set rider) riders
