-- The canonical lines of fares keep all rules.
use Rattle.std.proofs.Common.{◌≡◌, ℕ, ℤ, zero, suc, pos, ◌-◌, ◌^◌, ◌<◌, ◌≤◌, ◌≤ℤ◌, ◌↔◌, List, length, map, All, Contains, get_or, unsigned_abs, arith, sym, ap, ◌∙◌, subst}
use Rattle.std.specs.List.{AllZip, range_with_len}
use Rattle.std.specs.List.Sorted.{IsPermutation}
use Rattle.std.proofs.lemmas.Int.{ints}
use Rattle.std.proofs.lemmas.List.{get_or-map, length-map}
use Rattle.std.proofs.lemmas.List.Elements.{All-from_get_or}
use Rattle.std.proofs.lemmas.List.FromFn.{length-range_with_len, get_or-range_with_len}
use Rattle.std.proofs.lemmas.List.Sorted.{All-permutation}
use Rattle.arrayvec.specs.declared.array_vec.ArrayVec.{ArrayVec}
use Rattle.bid_rules.specs.declared.cases.FareCase.{FareCase}
use Rattle.bid_rules.specs.declared.limits.TheConstants.{MOST_RIDERS, PLACE_ROOM}
use Rattle.bid_rules.specs.Facts.{IsValidFareCase}
use Rattle.bid_rules.specs.Fares.{FareBest, IsLeastRoute, riders_of, sum_of_marginal_costs}
use Rattle.bid_rules.specs.Fractions.{Fraction, IsQuotient}
use Rattle.bid_rules.specs.Orders.{factorial, orders}
use Rattle.split_lemmas.proofs.SignedRows.{rows_again, rows_low, signed_again, signed_low}
use Rattle.best_laws.specs.Entries.{AreEntries, IsLowestRoute}
use Rattle.certificates.specs.FareLines.{canonical_fares, cost_lines}
use Rattle.certificates.proofs.FareCosts.{SetFacts, are_entries, has_lines}
use Rattle.certificates.proofs.FareMembers.{SameRoutes, lines_same, still_valid}
use Rattle.fare_rules.specs.Entries.{HasLines, entry_of}
use Rattle.fare_rules.specs.Rules.{fares_rule}
use Rattle.cert_reader.specs.Layout.{FaresView}
use Rattle.fare_rules.specs.Printed.{printed_case, printed_route}
use Rattle.shapley_core.specs.declared.division.FareDivision.{FareDivision}
use Rattle.shapley_core.specs.Division.{IsFareDivision}
use Rattle.shapley_core.specs.Members.{with_members}

-- the printed case is the case, of the most members
pub printed_is : (case : FareCase) (division : FareDivision) → printed_case (canonical_fares case division) ≡ with_members case MOST_RIDERS
printed_is case division =
    let made : List (ArrayVec ℕ PLACE_ROOM (Unit {0})) → List ℕ → List ℕ → FareCase = λ rows who at. record {
      facts = record { members = MOST_RIDERS; places = case.facts.places; flag = case.facts.flag; legs = record { items = rows } };
      who = record { items = who };
      at = record { items = at };
    } in
    ap (λ rows. made rows (map unsigned_abs (map pos case.who.items)) (map unsigned_abs (map pos case.at.items))) (rows_again PLACE_ROOM case.facts.legs.items)
    ∙ ap (λ who. made case.facts.legs.items who (map unsigned_abs (map pos case.at.items))) (signed_again case.who.items)
    ∙ ap (λ at. made case.facts.legs.items case.who.items at) (signed_again case.at.items)

-- riders of an order are 1 or more
riders_low : (n : ℕ) (route : List ℕ) → IsPermutation (range_with_len 1 n) route → All (λ x. pos 1 ≤ℤ x) (map pos route)
riders_low n route order k d l =
    let count = length-map route pos in
    let all : All (λ x. 1 ≤ x) (range_with_len 1 n) = All-from_get_or (λ x. 1 ≤ x) (range_with_len 1 n) 0 (λ i m. let r = length-range_with_len 1 n in let e = get_or-range_with_len 1 n i 0 (omega arith) in omega arith) in
    let here : 1 ≤ get_or route k 0 = All-permutation (λ x. 1 ≤ x) (range_with_len 1 n) route order all k 0 (omega (arith, count)) in
    let at : get_or (map pos route) k d ≡ pos (get_or route k 0) = get_or-map pos route k 0 d (omega (arith, count)) in
    omega (arith, ints, at, here)

-- what is known of routes
pub record RouteFacts : Type 0 where
  pub listed : (xs ys : List ℕ) → Contains (orders xs) ys ↔ IsPermutation xs ys
  pub only : (case : FareCase) (entry : ℕ → ℕ → ℕ) (route : List ℕ) → AreEntries case (length case.at.items) entry
      → IsLeastRoute case route → IsLowestRoute case entry 0 (2 ^ length case.at.items - 1) route

-- what is known of the number of members
pub record MembersFacts : Type 0 where
  pub routes : SameRoutes
  pub best : (case : FareCase) (members : ℕ) (fares : List Fraction) (route : List ℕ) → FareBest (with_members case members) fares route ↔ FareBest case fares route

-- all rules hold
pub fares_pass : SetFacts → RouteFacts → MembersFacts → (case : FareCase) (division : FareDivision) → IsValidFareCase case → IsFareDivision case division
    → (number : ℕ) → 1 ≤ number → number < 6 → fares_rule (canonical_fares case division) number
fares_pass sets routes apart case division valid is = rule
  where
    n : ℕ
    n = length case.at.items

    most : FareCase
    most = with_members case MOST_RIDERS

    view : FaresView
    view = canonical_fares case division

    route : List ℕ
    route = division.route.items

    lines : cost_lines most ≡ cost_lines case
    lines = lines_same apart.routes case MOST_RIDERS

    printed : printed_case view ≡ most
    printed = printed_is case division

    count : length view.at ≡ n
    count = length-map case.at.items pos

    best : FareBest most view.fares route
    best = (apart.best case MOST_RIDERS view.fares route).1 is.best

    least : IsLeastRoute most route
    least = best.least_route

    order : IsPermutation (range_with_len 1 n) route
    order = (routes.listed (range_with_len 1 n) route).0 least.order

    shown : (P : FareCase → ℕ → List ℕ → List (List ℤ) → Type 0) → P most n route (cost_lines most) → P (printed_case view) (length view.at) (printed_route view) view.sets
    shown P h = subst (λ (c : FareCase). P c (length view.at) (printed_route view) view.sets) (sym printed)
        (subst (λ (k : ℕ). P most k (printed_route view) view.sets) (sym count)
        (subst (λ (xs : List ℕ). P most n xs view.sets) (sym (signed_again route))
        (subst (λ (rows : List (List ℤ)). P most n route rows) lines h)))

    rule : (number : ℕ) → 1 ≤ number → number < 6 → fares_rule view number
    rule zero low high = absurd (omega arith)
    rule (suc zero) low high = record {
      flag = omega (arith, ints);
      legs = rows_low PLACE_ROOM case.facts.legs.items;
      who = signed_low case.who.items;
      at = signed_low case.at.items;
      valid = subst IsValidFareCase (sym printed) (still_valid case valid);
    }
    rule (suc (suc zero)) low high = shown (λ c k xs rows. HasLines c k rows) (has_lines sets most)
    rule (suc (suc (suc zero))) low high = record {
      positive = riders_low n route order;
      order = shown (λ c k xs rows. IsPermutation (range_with_len 1 k) xs) order;
    }
    rule (suc (suc (suc (suc zero)))) low high = shown (λ c k xs rows. IsLowestRoute c (entry_of k rows) 0 (2 ^ k - 1) xs)
        (routes.only most (entry_of n (cost_lines most)) route (are_entries sets most) least)
    rule (suc (suc (suc (suc (suc zero))))) low high = shown (λ c k xs rows. AllZip (λ rider fare. IsQuotient fare (sum_of_marginal_costs c rider) (factorial k)) (riders_of c) view.fares)
        best.mean
    rule (suc (suc (suc (suc (suc (suc number)))))) low high = absurd (omega arith)
