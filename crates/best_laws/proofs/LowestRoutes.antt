-- A route each of whose riders is the lowest that attains its entry is the least cheapest route.
use Rattle.std.proofs.Common.{◌≡◌, ◌≢◌, ℕ, zero, suc, ◌+◌, ◌-◌, ◌*◌, ◌/◌, ◌%◌, ◌^◌, ◌<◌, ◌≤◌, ◌==◌, List, [], ◌∷◌, length, map, get_or, All, Contains, Ordering, cond, arith, refl, sym, ap, ◌∙◌, subst}
use Rattle.std.specs.Cmp.Lexicographic.{slice_cmp}
use Rattle.std.specs.Ordering.{nat_cmp, ordering_then, MatchOrdering}
use Rattle.std.specs.declared.cmp.Ordering.TheVariants.{Less, Equal, Greater}
use Rattle.std.specs.List.{range_with_len}
use Rattle.std.specs.List.Sorted.{IsPermutation}
use Rattle.std.proofs.Math.Nat.{pow-suc}
use Rattle.std.proofs.lemmas.Cmp.{ranked}
use Rattle.std.proofs.lemmas.Nat.{pow_pos}
use Rattle.std.proofs.lemmas.List.{get_or-map, length-map}
use Rattle.std.proofs.lemmas.List.Sorted.{IsPermutation-refl, IsPermutation-sym, IsPermutation-trans, IsPermutation-cons, length_permutation, Contains-permutation, sum_by-IsPermutation}
use Rattle.bid_rules.specs.declared.cases.FareCase.{FareCase}
use Rattle.bid_rules.specs.Coalitions.{riders_in, start_of}
use Rattle.bid_rules.specs.Facts.{leg}
use Rattle.bid_rules.specs.Fares.{IsLeastRoute, least, legs_along, place_of, riders_of, route_cost}
use Rattle.bid_rules.specs.Orders.{orders}
use Rattle.split_lemmas.proofs.CompleteOrders.{listed_iff}
use Rattle.best_laws.proofs.Least.{fold_min_at}
use Rattle.split_lemmas.proofs.OrderLaws.{orders_permute}
use Rattle.best_laws.proofs.RouteLaws.{route_cost-least}
use Rattle.best_laws.proofs.SetNumbers.{riders_from, riders_in-are}
use Rattle.best_laws.specs.Entries.{AreEntries, IsLowestRoute, entry_by}
use Rattle.split_lemmas.proofs.RiderPlaces.{start_place}
use Rattle.best_laws.proofs.CostEntries.{IsRider, are_riders, entries_are, entry_behind, has_some, no_riders, route_of_set}
use Rattle.split_lemmas.proofs.Counts.{found, mark, mark_same, HasNoRepeat, no_repeat-permutation}
use Rattle.split_lemmas.proofs.RenamedOrders.{permutation_from_within}
use Rattle.std.proofs.lemmas.List.Sums.{sum_by-cons, get_or-le-sum_by}
use Rattle.best_laws.proofs.LastRiders.{differ}
use Rattle.best_laws.proofs.SetRiders.{not_without, set_once}

-- no order of the riders is cheaper than the route's cost
route_low : (case : FareCase) (from : ℕ) (xs other : List ℕ) → IsPermutation xs other → route_cost case from xs ≤ legs_along case from other
route_low case from xs other p =
    let there = (listed_iff xs other).1 p in
    let within = length-map (orders xs) (legs_along case from) in
    let low = route_cost-least case from xs there.0 0 (omega (arith, there.1, within)) in
    let at = get_or-map (legs_along case from) (orders xs) there.0 other 0 there.1 ∙ ap (legs_along case from) there.2 in
    omega (arith, low, at)

-- the cost is at most that by any rider
by_low : (case : FareCase) (from set rider : ℕ) → 0 < set → Contains (riders_in set) rider
    → route_cost case from (riders_in set) ≤ leg case.facts from (place_of case rider) + route_cost case (place_of case rider) (riders_in (set - 2 ^ (rider - 1)))
by_low case from set rider some c =
    let f : ℕ → ℕ = λ r. leg case.facts from (place_of case r) + route_cost case (place_of case r) (riders_in (set - 2 ^ (r - 1))) in
    let costs = map f (riders_in set) in
    let count = length-map (riders_in set) f in
    let low : least costs ≤ get_or costs c.0 0 = fold_min_at (get_or costs 0 0) costs c.0 0 (omega (arith, c.1, count)) in
    let at : get_or costs c.0 0 ≡ f rider = get_or-map f (riders_in set) c.0 rider 0 c.1 ∙ ap f c.2 in
    omega (arith, low, at, route_of_set case from set some)

-- what is in a set of n riders
pub rider_of : (n set rider : ℕ) → set < 2 ^ n → Contains (riders_in set) rider → IsRider n set rider
rider_of n set rider small c = subst (IsRider n set) c.2 (are_riders n set small c.0 rider c.1)

-- permutations with one first element
tail_permutes : (x : ℕ) (xs ys : List ℕ) → HasNoRepeat (x ∷ xs) → IsPermutation (x ∷ xs) (x ∷ ys) → IsPermutation xs ys
tail_permutes x xs ys once p = permutation_from_within xs ys (differ xs (λ a. omega (arith, sum_by-cons (mark a) x xs, once a))) within same
  where
    same : length xs ≡ length ys
    same = let e = length_permutation (x ∷ xs) (x ∷ ys) p in omega (arith, e)

    within : All (Contains ys) xs
    within k d l =
        let y : ℕ = get_or xs k d in
        found y ys (omega (arith, sum_by-IsPermutation (mark y) (x ∷ xs) (x ∷ ys) p, sum_by-cons (mark y) x xs, sum_by-cons (mark y) x ys, get_or-le-sum_by (mark y) xs k d l, mark_same y))

-- lists are compared by the first element, then by the others
not_less : (o r : ℕ) (os rs : List ℕ) → r ≤ o → (r ≡ o → slice_cmp nat_cmp os rs ≢ Less) → slice_cmp nat_cmp (o ∷ os) (r ∷ rs) ≢ Less
not_less o r os rs le more = split (nat_cmp o r) (ranked o r (nat_cmp o r) refl)
  where
    split : (t : Ordering) → MatchOrdering t (o < r) (o ≡ r) (r < o) → ordering_then t (slice_cmp nat_cmp os rs) ≢ Less
    split Less h = absurd (omega arith)
    split Equal h = more (sym h)
    split Greater h = λ e. cc

-- what the rule gives of the riders left
record IsLeastFrom (case : FareCase) (from set : ℕ) (route : List ℕ) : Type 0 where
  order : IsPermutation (riders_in set) route
  cheapest : legs_along case from route ≡ route_cost case from (riders_in set)
  first : (other : List ℕ) → IsPermutation (riders_in set) other → legs_along case from other ≡ route_cost case from (riders_in set) → slice_cmp nat_cmp other route ≢ Less

-- where no rider is left, it gives the empty route
none_left : (case : FareCase) (from set : ℕ) → set ≡ 0 → IsLeastFrom case from set []
none_left case from set e =
    let none : riders_in set ≡ [] = ap riders_in e ∙ no_riders in
    record {
      order = subst (λ xs. IsPermutation xs []) (sym none) (IsPermutation-refl []);
      cheapest = sym (ap (route_cost case from) none);
      first = λ other p cost. only other (subst (λ xs. IsPermutation xs other) none p);
    }
  where
    only : (other : List ℕ) → IsPermutation [] other → slice_cmp nat_cmp other [] ≢ Less
    only [] p = λ e. cc
    only (o ∷ os) p = absurd (let e = length_permutation [] (o ∷ os) p in omega (arith, e))

-- the lowest riders that attain their entries give it, from each departure
lowest_is : (case : FareCase) (n : ℕ) (entry : ℕ → ℕ → ℕ) → AreEntries case n entry → (at set : ℕ) (route : List ℕ) → set < 2 ^ n → at ≤ n → (Contains (riders_in set) at → ⊥)
    → IsLowestRoute case entry at set route → IsLeastFrom case (start_of case at) set route
lowest_is case n entry h at set [] small known outside lowest = none_left case (start_of case at) set lowest
lowest_is case n entry h at set (r ∷ rs) small known outside (there, attained, low, more) =
    step (lowest_is case n entry h r (set - 2 ^ (r - 1)) rs (omega (arith, small)) is.high (not_without set r is.others) more)
  where
    some : 0 < set
    some = has_some set r there

    is : IsRider n set r
    is = rider_of n set r small there

    from : ℕ
    from = start_of case at

    whole : entry at set ≡ route_cost case from (riders_in set)
    whole = entries_are case n entry h at set (record { some = some; within = small; known = known; outside = outside })

    by_is : (o : ℕ) → IsRider n set o → entry_by case entry at set o ≡ leg case.facts from (place_of case o) + route_cost case (place_of case o) (riders_in (set - 2 ^ (o - 1)))
    by_is o io = ap (λ cents. leg case.facts from (place_of case o) + cents) (entry_behind case n entry h set o some small io)

    step : IsLeastFrom case (start_of case r) (set - 2 ^ (r - 1)) rs → IsLeastFrom case from set (r ∷ rs)
    step rest = record {
      order = IsPermutation-trans (riders_in set) (r ∷ riders_in (set - 2 ^ (r - 1))) (r ∷ rs) is.others (IsPermutation-cons r (riders_in (set - 2 ^ (r - 1))) rs behind.order);
      cheapest = ap (λ cents. leg case.facts from (place_of case r) + cents) behind.cheapest ∙ sym (by_is r is) ∙ attained ∙ whole;
      first = later;
    }
      where
        behind : IsLeastFrom case (place_of case r) (set - 2 ^ (r - 1)) rs
        behind = subst (λ place. IsLeastFrom case place (set - 2 ^ (r - 1)) rs) (start_place case r is.low) rest

        later : (other : List ℕ) → IsPermutation (riders_in set) other → legs_along case from other ≡ route_cost case from (riders_in set) → slice_cmp nat_cmp other (r ∷ rs) ≢ Less
        later [] p cost = let e = length_permutation (riders_in set) [] p in let l = there.1 in absurd (omega (arith, e, l))
        later (o ∷ os) p cost =
            let co : Contains (riders_in set) o = Contains-permutation (o ∷ os) (riders_in set) o (IsPermutation-sym (riders_in set) (o ∷ os) p) (0, omega arith, refl) in
            let io = rider_of n set o small co in
            let left : ℕ = set - 2 ^ (o - 1) in
            let q : IsPermutation (riders_in left) os = tail_permutes o (riders_in left) os (no_repeat-permutation (riders_in set) (o ∷ riders_in left) io.others (set_once set))
            (IsPermutation-trans (o ∷ riders_in left) (riders_in set) (o ∷ os) (IsPermutation-sym (riders_in set) (o ∷ riders_in left) io.others) p) in
            let low_os = route_low case (place_of case o) (riders_in left) os q in
            let by = by_low case from set o some co in
            let reached : entry_by case entry at set o ≡ entry at set = by_is o io ∙ (let e : leg case.facts from (place_of case o) + route_cost case (place_of case o) (riders_in left) ≡ route_cost case from (riders_in set) = omega (arith, low_os, by, cost) in e) ∙ sym whole in
            let rest_cost : legs_along case (place_of case o) os ≡ route_cost case (place_of case o) (riders_in left) = omega (arith, low_os, by, cost) in
            not_less o r os rs (low o co reached)
            (λ e. behind.first os (subst (λ x. IsPermutation (riders_in (set - 2 ^ (x - 1))) os) (sym e) q)
            (subst (λ x. legs_along case (place_of case x) os ≡ route_cost case (place_of case x) (riders_in (set - 2 ^ (x - 1)))) (sym e) rest_cost))

-- all riders
full_from : (n a s : ℕ) → s + 1 ≡ 2 ^ n → riders_from n a s ≡ range_with_len a n
full_from zero a s e = refl
full_from (suc n) a s e =
    let twice : 2 ^ suc n ≡ 2 ^ n * 2 = pow-suc 2 n in
    let power : 0 < 2 ^ n = pow_pos n in
    let odd : s % 2 ≡ 1 = omega (arith, e, twice, power) in
    let half : s / 2 + 1 ≡ 2 ^ n = omega (arith, e, twice, power) in
    ap (λ p. cond (p == 1) (a ∷ riders_from n (a + 1) (s / 2)) (riders_from n (a + 1) (s / 2))) odd ∙ ap (λ xs. a ∷ xs) (full_from n (a + 1) (s / 2) half)

-- all riders are the set of the highest number
pub full_set : (n : ℕ) → riders_in (2 ^ n - 1) ≡ range_with_len 1 n
full_set n = let power : 0 < 2 ^ n = pow_pos n in riders_in-are n (2 ^ n - 1) (omega (arith, power)) ∙ full_from n 1 (2 ^ n - 1) (omega (arith, power))

-- the route of the rule is the least cheapest route
pub lowest_route : (case : FareCase) (entry : ℕ → ℕ → ℕ) (route : List ℕ) → AreEntries case (length case.at.items) entry → IsLowestRoute case entry 0 (2 ^ length case.at.items - 1) route → IsLeastRoute case route
lowest_route case entry route h lowest =
    let n : ℕ = length case.at.items in
    let power : 0 < 2 ^ n = pow_pos n in
    let small : 2 ^ n - 1 < 2 ^ n = omega (arith, power) in
    let outside : Contains (riders_in (2 ^ n - 1)) 0 → ⊥ = λ c. (let low = (rider_of n (2 ^ n - 1) 0 small c).low in omega arith) in
    let found = lowest_is case n entry h 0 (2 ^ n - 1) route small (omega arith) outside lowest in
    made (subst (λ xs. IsPermutation xs route) (full_set n) found.order)
    (subst (λ xs. legs_along case 0 route ≡ route_cost case 0 xs) (full_set n) found.cheapest)
    (subst (λ xs. (other : List ℕ) → IsPermutation xs other → legs_along case 0 other ≡ route_cost case 0 xs → slice_cmp nat_cmp other route ≢ Less) (full_set n) found.first)
  where
    made : IsPermutation (riders_of case) route → legs_along case 0 route ≡ route_cost case 0 (riders_of case)
        → ((other : List ℕ) → IsPermutation (riders_of case) other → legs_along case 0 other ≡ route_cost case 0 (riders_of case) → slice_cmp nat_cmp other route ≢ Less) → IsLeastRoute case route
    made order cheapest first = record {
      order = (listed_iff (riders_of case) route).1 order;
      cheapest = cheapest;
      first = λ k d l cost. first _ (orders_permute (riders_of case) k d l) cost;
    }
