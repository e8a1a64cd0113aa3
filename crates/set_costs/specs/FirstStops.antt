-- A step of the recursion over sets of riders: the routes of a set, by who gets off first.
use Rattle.std.specs.Prelude.{ℕ, ◌+◌, ◌*◌, ◌≤◌}
use Rattle.bid_rules.specs.declared.cases.FareCase.{FareCase}
use Rattle.bid_rules.specs.declared.limits.TheConstants.{MOST_FARE_CENTS, MOST_RIDERS}
use Rattle.bid_rules.specs.Coalitions.{riders_in}
use Rattle.bid_rules.specs.Facts.{leg}
use Rattle.bid_rules.specs.Fares.{place_of, route_cost}
use Rattle.best_laws.specs.Entries.{without}
use Rattle.set_costs.specs.declared.stops.FirstStop.{FirstStop}

-- where a rider of a set who gets off first does so, and what the route of the others costs from there
abbrev pub stop_of : FareCase → ℕ → ℕ → FirstStop
stop_of case set rider = record { place = place_of case rider; rest = route_cost case (place_of case rider) (riders_in (without set rider)) }

-- what a route with this first stop costs from a place: the leg to the stop, and the rest
abbrev pub cost_with : FareCase → ℕ → FirstStop → ℕ
cost_with case from stop = leg case.facts from stop.place + stop.rest

-- the stop is a place of the case, and the rest costs no more than a leg for each rider
pub record IsKnownStop (case : FareCase) (stop : FirstStop) : Type 0 where
  pub low : 1 ≤ stop.place
  pub high : stop.place ≤ case.facts.places
  pub small : stop.rest ≤ MOST_FARE_CENTS * MOST_RIDERS
