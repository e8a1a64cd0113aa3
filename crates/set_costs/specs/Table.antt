-- The rows of the recursion over sets of riders as one table: the costs of routes by set and departure.
use Rattle.std.specs.Prelude.{◌≡◌, ℕ, ◌+◌, ◌≤◌, ◌^◌, List, length, map}
use Rattle.std.specs.List.{range_with_len}
use Rattle.bid_rules.specs.declared.cases.FareCase.{FareCase}
use Rattle.bid_rules.specs.Coalitions.{riders_in, start_of}
use Rattle.bid_rules.specs.Facts.{IsValidFareCase}
use Rattle.bid_rules.specs.Fares.{route_cost}

-- what the route of these riders costs, from the origin and from each rider's place
abbrev pub route_costs : FareCase → List ℕ → List ℕ
route_costs case riders = map (λ at. route_cost case (start_of case at) riders) (range_with_len 0 (length case.at.items + 1))

-- the rows hold what routes cost for the first sets of riders of a valid case, by the number of the set
pub record ListsCosts (case : FareCase) (rows : List (List ℕ)) : Type 0 where
  pub valid : IsValidFareCase case
  pub few : length rows ≤ 2 ^ length case.at.items
  pub table : rows ≡ map (λ set. route_costs case (riders_in set)) (range_with_len 0 (length rows))

-- the rows hold what routes cost for all sets of riders of a valid case, by the number of the set
pub record HoldsCosts (case : FareCase) (rows : List (List ℕ)) : Type 0 where
  pub lists : ListsCosts case rows
  pub all : length rows ≡ 2 ^ length case.at.items
