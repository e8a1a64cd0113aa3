-- The definitions of costs, routes and fares, computed on two cases.
use Rattle.std.proofs.Common.{◌≡◌, ◌≢◌, ℕ, pos, zero, suc, ◌≤◌, List, [], ◌∷◌, map, All, Contains, true, arith, rules, refl, sym, subst, nat_le}
use Rattle.std.specs.Cmp.Lexicographic.{slice_cmp}
use Rattle.std.specs.List.{list_all}
use Rattle.std.specs.List.Sorted.{IsStrictlyIncreasing}
use Rattle.std.specs.Ordering.{nat_cmp}
use Rattle.std.specs.declared.cmp.Ordering.TheVariants.{Less}
use Rattle.std.proofs.lemmas.Bool.Decides.{nat_tests}
use Rattle.std.proofs.lemmas.List.Elements.{All-nil, All-cons, All-weaker}
use Rattle.std.proofs.lemmas.List.Sums.{AllPass-from_list_all}
use Rattle.bid_rules.specs.declared.cases.FareCase.{FareCase}
use Rattle.bid_rules.specs.declared.fares.Fares.{Fares}
use Rattle.bid_rules.specs.Facts.{IsValidFareCase, AreWithinLimit, leg, legs_in_order}
use Rattle.bid_rules.specs.Fares.{FareBest, IsLeastRoute, coalition_cost, legs_along, marginal_cost, riders_of, route_cost}
use Rattle.bid_rules.specs.Orders.{orders}
use Rattle.best_laws.specs.WorkedFares.{two_places, one_place}

-- what the coalitions of two riders to two places cost
pub two_places_costs : map (coalition_cost two_places) ((1 ∷ []) ∷ (2 ∷ []) ∷ (1 ∷ 2 ∷ []) ∷ []) ≡ 1300 ∷ 1800 ∷ 2000 ∷ []
unfolding coalition_cost
two_places_costs = refl

-- riders to one place cost together what one costs alone
pub one_place_costs : map (coalition_cost one_place) ((1 ∷ []) ∷ (2 ∷ []) ∷ (1 ∷ 2 ∷ []) ∷ []) ≡ 1300 ∷ 1300 ∷ 1300 ∷ []
unfolding coalition_cost
one_place_costs = refl

-- the route 1, 2 is the least of two orders, if it is cheapest
route_is_least : (case : FareCase) → orders (riders_of case) ≡ (1 ∷ 2 ∷ []) ∷ (2 ∷ 1 ∷ []) ∷ [] → legs_along case 0 (1 ∷ 2 ∷ []) ≡ route_cost case 0 (riders_of case) → IsLeastRoute case (1 ∷ 2 ∷ [])
route_is_least case two cheapest = record {
  order = subst (λ os. Contains os (1 ∷ 2 ∷ [])) (sym two) (0, omega arith, refl);
  cheapest = cheapest;
  first = subst (All P) (sym two) (All-cons P (1 ∷ 2 ∷ []) ((2 ∷ 1 ∷ []) ∷ []) (λ _ e. cc) (All-cons P (2 ∷ 1 ∷ []) [] (λ _ e. cc) (All-nil P)));
}
  where
    P : List ℕ → Type 0
    P other = legs_along case 0 other ≡ route_cost case 0 (riders_of case) → slice_cmp nat_cmp other (1 ∷ 2 ∷ []) ≢ Less

-- the best fares and the route of two riders to two places
pub two_places_best : FareBest two_places ((pos 750, 1) ∷ (pos 1250, 1) ∷ []) (1 ∷ 2 ∷ [])
unfolding coalition_cost marginal_cost
two_places_best = record {
  mean = ((omega arith, refl), ((omega arith, refl), tt));
  least_route = route_is_least two_places refl refl;
}

-- the best fares of two riders to one place are equal
pub one_place_best : FareBest one_place ((pos 650, 1) ∷ (pos 650, 1) ∷ []) (1 ∷ 2 ∷ [])
unfolding coalition_cost marginal_cost
one_place_best = record {
  mean = ((omega arith, refl), ((omega arith, refl), tt));
  least_route = route_is_least one_place refl refl;
}

-- what holds of two elements
pair : {X : Type 0} (P : X → Type 0) (x y : X) → P x → P y → All P (x ∷ y ∷ [])
pair P x y a b = All-cons P x (y ∷ []) a (All-cons P y [] b (All-nil P))

-- the legs of a place to itself are 0
two_places_own : (p : ℕ) → 1 ≤ p → p ≤ 2 → leg two_places.facts p p ≡ 0
two_places_own zero low high = absurd (omega arith)
two_places_own (suc zero) low high = refl
two_places_own (suc (suc zero)) low high = refl
two_places_own (suc (suc (suc p))) low high = absurd (omega arith)

-- the leg of the one place to itself is 0
one_place_own : (p : ℕ) → 1 ≤ p → p ≤ 1 → leg one_place.facts p p ≡ 0
one_place_own zero low high = absurd (omega arith)
one_place_own (suc zero) low high = refl
one_place_own (suc (suc p)) low high = absurd (omega arith)

-- numbers that pass the test are within the limit
within_limit : (facts : Fares) → list_all (λ cents. nat_le cents 1000000) (facts.flag ∷ legs_in_order facts) ≡ true → AreWithinLimit facts
within_limit facts h = All-weaker (λ cents. nat_le cents 1000000 ≡ true) (λ cents. cents ≤ 1000000) (λ cents e. grind (arith, nat_tests)) (facts.flag ∷ legs_in_order facts)
    (AllPass-from_list_all (λ cents. nat_le cents 1000000) (facts.flag ∷ legs_in_order facts) h)

-- two riders in order
rising : IsStrictlyIncreasing (1 ∷ 2 ∷ [])
rising zero l = omega arith
rising (suc k) l = absurd (omega arith)

-- the case of two places is valid
pub two_places_valid : IsValidFareCase two_places
two_places_valid = record {
  facts = record {
    shape = record {
      members_low = omega arith;
      members_high = omega arith;
      places_low = omega arith;
      places_high = omega arith;
      table = record { rows = refl; columns = search rules };
    };
    cents = within_limit two_places.facts refl;
    own_legs = two_places_own;
  };
  rising = rising;
  members = pair (λ member. (1 ≤ member) × (member ≤ 2)) 1 2 (omega arith, omega arith) (omega arith, omega arith);
  some = omega arith;
  each = refl;
  places = pair (λ place. (1 ≤ place) × (place ≤ 2)) 1 2 (omega arith, omega arith) (omega arith, omega arith);
}

-- the case of one place is valid
pub one_place_valid : IsValidFareCase one_place
one_place_valid = record {
  facts = record {
    shape = record {
      members_low = omega arith;
      members_high = omega arith;
      places_low = omega arith;
      places_high = omega arith;
      table = record { rows = refl; columns = search rules };
    };
    cents = within_limit one_place.facts refl;
    own_legs = one_place_own;
  };
  rising = rising;
  members = pair (λ member. (1 ≤ member) × (member ≤ 2)) 1 2 (omega arith, omega arith) (omega arith, omega arith);
  some = omega arith;
  each = refl;
  places = pair (λ place. (1 ≤ place) × (place ≤ 1)) 1 1 (omega arith, omega arith) (omega arith, omega arith);
}
