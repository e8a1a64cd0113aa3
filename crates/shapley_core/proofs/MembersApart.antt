-- The number of members does not change what routes and coalitions cost, nor the best division.
use Rattle.std.proofs.Common.{◌≡◌, ℕ, pos, get_or, ◌+◌, ◌+ℤ◌, ◌-ℤ◌, List, [], ◌∷◌, ◌++◌, length, fold, refl, sym, ap, ◌∙◌, subst}
use Rattle.std.specs.List.{AllZip}
use Rattle.bid_rules.specs.declared.cases.FareCase.{FareCase}
use Rattle.bid_rules.specs.Facts.{leg}
use Rattle.bid_rules.specs.Fares.{FareBest, IsLeastRoute, coalition_cost, least, legs_along, marginal_cost, place_of, riders_before, riders_of, route_cost, sum_of_marginal_costs}
use Rattle.bid_rules.specs.Fractions.{Fraction, IsQuotient}
use Rattle.bid_rules.specs.Orders.{factorial, orders}
use Rattle.split_lemmas.proofs.MappedLists.{map_same}
use Rattle.shapley_core.specs.Members.{with_members}

-- the legs of an order
legs_same : (case : FareCase) (m n from : ℕ) (riders : List ℕ) → legs_along (with_members case m) from riders ≡ legs_along (with_members case n) from riders
legs_same case m n from [] = refl
legs_same case m n from (rider ∷ riders) = ap (λ rest. leg case.facts from (place_of case rider) + rest) (legs_same case m n (place_of case rider) riders)

-- what a route costs
pub route_same : (case : FareCase) (m n from : ℕ) (riders : List ℕ) → route_cost (with_members case m) from riders ≡ route_cost (with_members case n) from riders
route_same case m n from riders = ap least (map_same (legs_along (with_members case m) from) (legs_along (with_members case n) from) (orders riders) (legs_same case m n from))

-- what a coalition costs
pub coalition_same : (case : FareCase) (m n : ℕ) (riders : List ℕ) → coalition_cost (with_members case m) riders ≡ coalition_cost (with_members case n) riders
unfolding coalition_cost
coalition_same case m n [] = refl
coalition_same case m n (rider ∷ riders) = ap (λ cost. case.facts.flag + cost) (route_same case m n 0 (rider ∷ riders))

-- what a rider adds
marginal_same : (case : FareCase) (m n rider : ℕ) (order : List ℕ) → marginal_cost (with_members case m) rider order ≡ marginal_cost (with_members case n) rider order
unfolding marginal_cost
marginal_same case m n rider order =
    let before : List ℕ = riders_before rider order in
    ap (λ cost. pos cost -ℤ pos (coalition_cost (with_members case m) before)) (coalition_same case m n (before ++ rider ∷ []))
    ∙ ap (λ cost. pos (coalition_cost (with_members case n) (before ++ rider ∷ [])) -ℤ pos cost) (coalition_same case m n before)

-- over all orders
pub sum_same : (case : FareCase) (m n rider : ℕ) → sum_of_marginal_costs (with_members case m) rider ≡ sum_of_marginal_costs (with_members case n) rider
sum_same case m n rider = ap (fold ◌+ℤ◌ (pos 0)) (map_same (marginal_cost (with_members case m) rider) (marginal_cost (with_members case n) rider) (orders (riders_of case)) (marginal_same case m n rider))

-- what holds of pairs one by one
all_zip : {X Y : Type 0} (P Q : X → Y → Type 0) → ((x : X) (y : Y) → P x y → Q x y) → (xs : List X) (ys : List Y) → AllZip P xs ys → AllZip Q xs ys
all_zip P Q f [] [] h = h
all_zip P Q f [] (y ∷ ys) h = absurd h
all_zip P Q f (x ∷ xs) [] h = absurd h
all_zip P Q f (x ∷ xs) (y ∷ ys) h = (f x y h.0, all_zip P Q f xs ys h.1)

-- the least route
pub least_route_same : (case : FareCase) (m n : ℕ) (route : List ℕ) → IsLeastRoute (with_members case m) route → IsLeastRoute (with_members case n) route
least_route_same case m n route h =
    let cost = route_same case m n 0 (riders_of case) in
    record {
      order = h.order;
      cheapest = legs_same case n m 0 route ∙ h.cheapest ∙ cost;
      first = λ k d l e. h.first k d l (legs_same case m n 0 (get_or (orders (riders_of case)) k d) ∙ e ∙ sym cost);
    }

-- the best division
pub best_same : (case : FareCase) (m n : ℕ) (fares : List Fraction) (route : List ℕ) → FareBest (with_members case m) fares route → FareBest (with_members case n) fares route
best_same case m n fares route h = record {
  mean = all_zip
      (λ rider fare. IsQuotient fare (sum_of_marginal_costs (with_members case m) rider) (factorial (length case.at.items)))
      (λ rider fare. IsQuotient fare (sum_of_marginal_costs (with_members case n) rider) (factorial (length case.at.items)))
      (λ rider fare q. subst (λ sum. IsQuotient fare sum (factorial (length case.at.items))) (sum_same case m n rider) q) (riders_of case) fares h.mean;
  least_route = least_route_same case m n route h.least_route;
}
