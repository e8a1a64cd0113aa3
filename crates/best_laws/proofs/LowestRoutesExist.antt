-- There is a route each of whose riders is the lowest that attains its entry, and it is the least route.
use Rattle.std.proofs.Common.{◌≡◌, ◌≢◌, ℕ, zero, suc, ◌+◌, ◌-◌, ◌^◌, ◌<◌, ◌≤◌, List, [], ◌∷◌, length, map, get_or, Contains, arith, refl, sym, ap, ◌∙◌, subst, ⊎_elim}
use Rattle.std.proofs.lemmas.Bool.{cases_eq}
use Rattle.std.proofs.lemmas.List.{length-map}
use Rattle.std.proofs.lemmas.Nat.{pow_pos}
use Rattle.bid_rules.specs.declared.cases.FareCase.{FareCase}
use Rattle.bid_rules.specs.Coalitions.{riders_in}
use Rattle.bid_rules.specs.Fares.{IsLeastRoute}
use Rattle.best_laws.specs.Entries.{AreEntries, IsLowestRoute, entry_by}
use Rattle.best_laws.proofs.CostEntries.{IsRider}
use Rattle.best_laws.proofs.LeastRoute.{same_route}
use Rattle.best_laws.proofs.LowestRoutes.{lowest_route, rider_of}
use Rattle.best_laws.proofs.RouteLaws.{least_reached}
use Rattle.best_laws.proofs.SetLaws.{some_riders}
use Rattle.best_laws.proofs.SetNumbers.{RisesFrom, riders_in-are, riders_rise, self_small}
use Rattle.best_laws.proofs.SetRiders.{not_without}

-- none of a rising list is below the number from which it rises
rises_low : (a : ℕ) (xs : List ℕ) (other : ℕ) → RisesFrom a xs → Contains xs other → a ≤ other
rises_low a [] other rises (k, l, e) = absurd (omega arith)
rises_low a (x ∷ xs) other rises (zero, l, e) = let low = rises.0 in omega (arith, low, e)
rises_low a (x ∷ xs) other rises (suc k, l, e) = let later = rises_low (x + 1) xs other rises.1 (k, omega arith, e) in omega (arith, later, rises.0)

-- of the riders that attain a number, the lowest
abbrev IsLowest : (ℕ → ℕ) → ℕ → List ℕ → ℕ → Type 0
IsLowest f m xs x = Contains xs x × (f x ≡ m) × ((other : ℕ) → Contains xs other → f other ≡ m → x ≤ other)

-- in a rising list, a number that is attained has a lowest rider who attains it
lowest_of : (f : ℕ → ℕ) (m a : ℕ) (xs : List ℕ) → RisesFrom a xs → Contains (map f xs) m → (x : ℕ) × IsLowest f m xs x
lowest_of f m a [] rises (k, l, e) = absurd (omega arith)
lowest_of f m a (x ∷ xs) rises (k, l, e) = ⊎_elim
    (λ (here : f x ≡ m). (x, ((0, omega arith, refl), here, λ other c _. least_first other c)))
    (λ (not_here : f x ≢ m). behind not_here (λ c. lowest_of f m (x + 1) xs rises.1 c) k l e)
    (cases_eq (f x) m)
  where
    least_first : (other : ℕ) → Contains (x ∷ xs) other → x ≤ other
    least_first other (zero, l, e) = omega (arith, e)
    least_first other (suc j, l, e) = let later = rises_low (x + 1) xs other rises.1 (j, omega arith, e) in omega (arith, later)

    behind : f x ≢ m → (Contains (map f xs) m → (y : ℕ) × IsLowest f m xs y) → (k : ℕ) → k < length (map f (x ∷ xs)) → get_or (map f (x ∷ xs)) k m ≡ m → (y : ℕ) × IsLowest f m (x ∷ xs) y
    behind apart more zero l e = absurd (apart e)
    behind apart more (suc k) l e =
        let rest = more (k, omega arith, e) in
        let there = rest.1.0 in (
          rest.0,
          ((suc there.0, (let within = there.1 in omega (arith, within)), there.2), rest.1.1, λ other c is. later rest.0 rest.1.2 other c is),
        )
      where
        later : (y : ℕ) → ((other : ℕ) → Contains xs other → f other ≡ m → y ≤ other) → (other : ℕ) → Contains (x ∷ xs) other → f other ≡ m → y ≤ other
        later y low other (zero, l, e) is = absurd (apart (ap f e ∙ is))
        later y low other (suc j, l, e) is = low other (j, omega arith, e) is

-- a lowest route of each set, by the size of its number
lowest_exists : (case : FareCase) (n : ℕ) (entry : ℕ → ℕ → ℕ) → AreEntries case n entry → (k at set : ℕ) → set < k → set < 2 ^ n → at ≤ n → (Contains (riders_in set) at → ⊥)
    → (route : List ℕ) × IsLowestRoute case entry at set route
lowest_exists case n entry h zero at set l small known outside = absurd (omega arith)
lowest_exists case n entry h (suc k) at set l small known outside =
    ⊎_elim (λ (none : set ≡ 0). ([], none)) (step (λ rider left. lowest_exists case n entry h k rider left)) (cases_eq set 0)
  where
    step : ((rider left : ℕ) → left < k → left < 2 ^ n → rider ≤ n → (Contains (riders_in left) rider → ⊥) → (route : List ℕ) × IsLowestRoute case entry rider left route)
        → set ≢ 0 → (route : List ℕ) × IsLowestRoute case entry at set route
    step more apart =
        let some : 0 < set = omega (arith, apart) in
        let f : ℕ → ℕ = entry_by case entry at set in
        let riders : List ℕ = riders_in set in
        let long : 0 < length (map f riders) = omega (arith, length-map riders f, some_riders set apart) in
        let reached : Contains (map f riders) (entry at set) =
        subst (Contains (map f riders)) (sym (h.each at set (record { some = some; within = small; known = known; outside = outside }))) (least_reached (map f riders) long) in
        let rises : RisesFrom 1 riders = subst (RisesFrom 1) (sym (riders_in-are set set (self_small set))) (riders_rise set 1 set) in
        let lowest = lowest_of f (entry at set) 1 riders rises reached in
        let rider : ℕ = lowest.0 in
        let is : IsRider n set rider = rider_of n set rider small lowest.1.0 in
        let power : 0 < 2 ^ (rider - 1) = pow_pos (rider - 1) in
        let rest = more rider (set - 2 ^ (rider - 1)) (omega (arith, l, some, power)) (omega (arith, small)) is.high (not_without set rider is.others) in
        (rider ∷ rest.0, (lowest.1.0, lowest.1.1, lowest.1.2, rest.1))

-- the least route goes by the lowest rider each time
pub least_is_lowest : (case : FareCase) (entry : ℕ → ℕ → ℕ) (route : List ℕ) → AreEntries case (length case.at.items) entry → IsLeastRoute case route
    → IsLowestRoute case entry 0 (2 ^ length case.at.items - 1) route
least_is_lowest case entry route h is_least =
    let n : ℕ = length case.at.items in
    let full : ℕ = 2 ^ n - 1 in
    let power : 0 < 2 ^ n = pow_pos n in
    let small : full < 2 ^ n = omega (arith, power) in
    let outside : Contains (riders_in full) 0 → ⊥ = λ c. (let low = (rider_of n full 0 small c).low in omega arith) in
    let found = lowest_exists case n entry h (suc full) 0 full (omega arith) small (omega arith) outside in
    subst (IsLowestRoute case entry 0 full) (same_route case found.0 route (lowest_route case entry found.0 h found.1) is_least) found.1
