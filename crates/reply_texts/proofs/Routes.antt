-- The route of a shared fare goes through riders.
use Rattle.std.proofs.Common.{ℕ, ◌<◌, ◌≤◌, List, All, length, Contains, ◌↔◌, arith, sym, subst}
use Rattle.std.specs.List.Sorted.{IsPermutation}
use Rattle.std.proofs.lemmas.List.FromFn.{get_or-range_with_len, length-range_with_len}
use Rattle.std.proofs.lemmas.List.Sorted.{All-permutation}
use Rattle.bid_rules.specs.declared.cases.FareCase.{FareCase}
use Rattle.bid_rules.specs.Facts.{IsValidFareCase}
use Rattle.bid_rules.specs.Fares.{riders_of}
use Rattle.bid_rules.specs.Orders.{orders as all_orders}
use Rattle.shapley_core.specs.Division.{IsFareDivision}
use Rattle.shapley_core.specs.declared.division.FareDivision.{FareDivision}

-- the route goes through riders
pub route_riders : ((xs ys : List ℕ) → Contains (all_orders xs) ys ↔ IsPermutation xs ys) → (case : FareCase) (division : FareDivision) → IsValidFareCase case → IsFareDivision case division
    → All (λ rider. (1 ≤ rider) × (rider ≤ length case.who.items)) division.route.items
route_riders listed case division valid is =
    let n = length case.at.items in
    let within : All (λ rider. (1 ≤ rider) × (rider ≤ length case.who.items)) (riders_of case) = λ k d l.
    let below : k < n = omega (arith, length-range_with_len 1 n) in
    let P : ℕ → Type 0 = λ rider. (1 ≤ rider) × (rider ≤ length case.who.items) in
    subst P (sym (get_or-range_with_len 1 n k d below)) (omega arith, omega (arith, valid.each)) in
    All-permutation (λ rider. (1 ≤ rider) × (rider ≤ length case.who.items)) (riders_of case) division.route.items ((listed (riders_of case) division.route.items).0 is.best.least_route.order) within
