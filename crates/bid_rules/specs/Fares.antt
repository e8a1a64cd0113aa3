-- Routes, what coalitions of riders cost, and the best division of a shared fare (Shapley 1953).
use Rattle.std.specs.Prelude.{◌≡◌, ◌≢◌, ℕ, ℤ, pos, ◌+◌, ◌-◌, ◌+ℤ◌, ◌-ℤ◌, List, [], ◌∷◌, ◌++◌, ◌==◌, not, length, map, fold, min, All, Contains, slice_index, take_while}
use Rattle.std.specs.List.{range_with_len, AllZip}
use Rattle.std.specs.Cmp.Lexicographic.{slice_cmp}
use Rattle.std.specs.Ordering.{nat_cmp}
use Rattle.std.specs.declared.cmp.Ordering.TheVariants.{Less}
use Rattle.bid_rules.specs.declared.cases.FareCase.{FareCase}
use Rattle.bid_rules.specs.Facts.{leg}
use Rattle.bid_rules.specs.Fractions.{Fraction, IsQuotient}
use Rattle.bid_rules.specs.Orders.{orders, factorial}

-- the riders of a case, numbered from 1
abbrev pub riders_of : FareCase → List ℕ
riders_of case = range_with_len 1 (length case.at.items)

-- the place at which a rider of the case gets off
abbrev pub place_of : FareCase → ℕ → ℕ
place_of case rider = slice_index case.at.items (rider - 1)

-- the sum of the legs from a place to the riders' places, in this order
abbrev pub legs_along : FareCase → ℕ → List ℕ → ℕ
legs_along case from [] = 0
legs_along case from (rider ∷ riders) = leg case.facts from (place_of case rider) + legs_along case (place_of case rider) riders

-- the least of some numbers, or 0 if there are none
abbrev pub least : List ℕ → ℕ
least numbers = fold min (slice_index numbers 0) numbers

-- the cost of a route: the least sum of legs from a place, over all orders in which the riders may get off
abbrev pub route_cost : FareCase → ℕ → List ℕ → ℕ
route_cost case from riders = least (map (legs_along case from) (orders riders))

-- the cost of a coalition: nothing if it is empty, otherwise the flag fall and the route from the origin
unfoldable pub coalition_cost : FareCase → List ℕ → ℕ
coalition_cost case [] = 0
coalition_cost case (rider ∷ riders) = case.facts.flag + route_cost case 0 (rider ∷ riders)

-- the riders who come before one in an order
abbrev pub riders_before : ℕ → List ℕ → List ℕ
riders_before rider order = take_while (λ other. not (other == rider)) order

-- what a rider adds to the cost when the riders join in this order: the cost of the riders up to this one, less the cost of those before
unfoldable pub marginal_cost : FareCase → ℕ → List ℕ → ℤ
marginal_cost case rider order = pos (coalition_cost case (riders_before rider order ++ rider ∷ [])) -ℤ pos (coalition_cost case (riders_before rider order))

-- the sum of what a rider adds to the cost, over all orders of the riders
abbrev pub sum_of_marginal_costs : FareCase → ℕ → ℤ
sum_of_marginal_costs case rider = fold ◌+ℤ◌ (pos 0) (map (marginal_cost case rider) (orders (riders_of case)))

-- the route: an order of all riders with the least sum of legs, and the first of these orders as a list
pub record IsLeastRoute (case : FareCase) (route : List ℕ) : Type 0 where
  -- an order of all riders
  pub order : Contains (orders (riders_of case)) route
  pub cheapest : legs_along case 0 route ≡ route_cost case 0 (riders_of case)
  -- no order that is as cheap comes earlier as a list
  pub first : All (λ other. legs_along case 0 other ≡ route_cost case 0 (riders_of case) → slice_cmp nat_cmp other route ≢ Less) (orders (riders_of case))

-- the best division of a shared fare: each rider pays the mean of what the rider adds to the cost over all n! orders, which is the Shapley value
-- (Shapley 1953), and they take the first of the cheapest routes
pub record FareBest (case : FareCase) (fares : List Fraction) (route : List ℕ) : Type 0 where
  pub mean : AllZip (λ rider fare. IsQuotient fare (sum_of_marginal_costs case rider) (factorial (length case.at.items))) (riders_of case) fares
  pub least_route : IsLeastRoute case route
