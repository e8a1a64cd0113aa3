-- A table whose entries keep the recurrence holds the costs of the routes.
use Rattle.std.proofs.Common.{◌≡◌, ◌≢◌, ℕ, zero, suc, ◌+◌, ◌-◌, ◌^◌, ◌<◌, ◌≤◌, [], ◌∷◌, length, get_or, map, All, Contains, arith, refl, sym, ap, ◌∙◌, ⊎_elim}
use Rattle.std.proofs.lemmas.Bool.{cases_eq}
use Rattle.std.specs.List.Sorted.{IsPermutation}
use Rattle.std.proofs.lemmas.List.{get_or-map, length-map}
use Rattle.std.proofs.lemmas.List.Elements.{All-map, Contains-get_or}
use Rattle.std.proofs.lemmas.Nat.{pow_pos}
use Rattle.bid_rules.specs.declared.cases.FareCase.{FareCase}
use Rattle.bid_rules.specs.Coalitions.{riders_in, start_of}
use Rattle.bid_rules.specs.Facts.{leg}
use Rattle.bid_rules.specs.Fares.{least, place_of, route_cost}
use Rattle.split_lemmas.proofs.RiderPlaces.{start_place}
use Rattle.best_laws.proofs.SetLaws.{riders_in-within, some_riders}
use Rattle.best_laws.specs.Entries.{AreEntries, IsDeparture, cost_by, costs_from, entry_by}
use Rattle.best_laws.proofs.Least.{least_is}
use Rattle.best_laws.proofs.Parts.{map_map}
use Rattle.best_laws.proofs.RouteRecurrence.{first_leg, route_of_parts}
use Rattle.split_lemmas.proofs.MappedLists.{map_same_on}
use Rattle.best_laws.proofs.SetParts.{parts_of_set}
use Rattle.best_laws.proofs.SetRiders.{not_without, without_permutes}

-- the recurrence of route costs by set
pub route_of_set : (case : FareCase) (from set : ℕ) → 0 < set → route_cost case from (riders_in set) ≡ least (map (cost_by case from set) (riders_in set))
route_of_set case from set some =
    route_of_parts case from (riders_in set) (some_riders set (λ e. omega (arith, e, some)))
    ∙ ap (λ ps. least (map (first_leg case from) ps)) (parts_of_set set)
    ∙ ap least (map_map (first_leg case from) (λ rider. (rider, riders_in (set - 2 ^ (rider - 1)))) (riders_in set))

-- a rider of a set of the first n riders: the set without it has the others
pub record IsRider (n set rider : ℕ) : Type 0 where
  pub low : 1 ≤ rider
  pub high : rider ≤ n
  pub others : IsPermutation (riders_in set) (rider ∷ riders_in (set - 2 ^ (rider - 1)))

-- each rider of a set of the first n riders is one
pub are_riders : (n set : ℕ) → set < 2 ^ n → All (IsRider n set) (riders_in set)
are_riders n set small k d l =
    let range = (riders_in-within n set).0 small k d l in
    record { low = range.0; high = range.1; others = without_permutes set k d l }

-- the empty set has no riders
pub no_riders : riders_in 0 ≡ []
unfolding riders_in
no_riders = refl

-- a set with a rider is not empty
pub has_some : (set rider : ℕ) → Contains (riders_in set) rider → 0 < set
has_some zero rider c = let none = ap length no_riders in let l = c.1 in absurd (omega (arith, none, l))
has_some (suc set) rider c = omega arith

-- nobody's route costs nothing
pub cost_of_none : (case : FareCase) (from : ℕ) → route_cost case from (riders_in 0) ≡ 0
cost_of_none case from = ap (route_cost case from) no_riders

-- the rider by whom a route is cheapest gives its cost
pub first_is : (case : FareCase) (from set rider : ℕ) → Contains (riders_in set) rider → ((other : ℕ) → Contains (riders_in set) other → cost_by case from set rider ≤ cost_by case from set other)
    → route_cost case from (riders_in set) ≡ cost_by case from set rider
first_is case from set rider there low =
    let riders = riders_in set in
    let costs = map (cost_by case from set) riders in
    let count : length costs ≡ length riders = length-map riders (cost_by case from set) in
    let within : there.0 < length riders = there.1 in
    let here : Contains costs (cost_by case from set rider) = (
      there.0,
      omega (arith, within, count),
      get_or-map (cost_by case from set) riders there.0 rider (cost_by case from set rider) within ∙ ap (cost_by case from set) there.2,
    ) in
    route_of_set case from set (has_some set rider there)
    ∙ sym (least_is costs (cost_by case from set rider) here (All-map (λ cents. cost_by case from set rider ≤ cents) (cost_by case from set) riders
    (λ k d l. low (get_or riders k d) (Contains-get_or riders k d l))))

-- the entry after a rider, where the smaller sets are known
behind : (case : FareCase) (n : ℕ) (entry : ℕ → ℕ → ℕ) → AreEntries case n entry → (set rider : ℕ) → 0 < set → set < 2 ^ n → IsRider n set rider
    → ((at smaller : ℕ) → smaller < set → IsDeparture n at smaller → entry at smaller ≡ route_cost case (start_of case at) (riders_in smaller))
    → entry rider (set - 2 ^ (rider - 1)) ≡ route_cost case (place_of case rider) (riders_in (set - 2 ^ (rider - 1)))
behind case n entry h set rider some within is before =
    let left : ℕ = set - 2 ^ (rider - 1) in
    let power : 0 < 2 ^ (rider - 1) = pow_pos (rider - 1) in
    ⊎_elim
    (λ (e : left ≡ 0). ap (entry rider) e ∙ h.none rider ∙ sym (ap (λ m. route_cost case (place_of case rider) (riders_in m)) e ∙ ap (route_cost case (place_of case rider)) no_riders))
    (λ (ne : left ≢ 0).
    before rider left (omega (arith, power, some))
    (record { some = (let above : 0 < left = omega (arith, ne) in above); within = omega (arith, within); known = is.high; outside = not_without set rider is.others })
    ∙ ap (λ from. route_cost case from (riders_in left)) (start_place case rider is.low))
    (cases_eq left 0)

-- by the size of the number
upto : (case : FareCase) (n : ℕ) (entry : ℕ → ℕ → ℕ) → AreEntries case n entry → (k at set : ℕ) → set < k → IsDeparture n at set → entry at set ≡ route_cost case (start_of case at) (riders_in set)
upto case n entry h zero at set l start = absurd (omega arith)
upto case n entry h (suc k) at set l start =
    h.each at set start
    ∙ ap least (map_same_on (IsRider n set) (entry_by case entry at set) (λ rider. leg case.facts (start_of case at) (place_of case rider) + route_cost case (place_of case rider) (riders_in (set - 2 ^ (rider - 1)))) (riders_in set)
    (are_riders n set start.within)
    (λ rider is. ap (λ cents. leg case.facts (start_of case at) (place_of case rider) + cents)
    (behind case n entry h set rider start.some start.within is (λ at smaller below. upto case n entry h k at smaller (omega (arith, l, below))))))
    ∙ sym (route_of_set case (start_of case at) set start.some)

-- a table that keeps the recurrence holds what the routes cost
pub entries_are : (case : FareCase) (n : ℕ) (entry : ℕ → ℕ → ℕ) → AreEntries case n entry → (at set : ℕ) → IsDeparture n at set → entry at set ≡ route_cost case (start_of case at) (riders_in set)
entries_are case n entry h at set start = upto case n entry h (suc set) at set (omega arith) start

-- the entry after a rider
pub entry_behind : (case : FareCase) (n : ℕ) (entry : ℕ → ℕ → ℕ) → AreEntries case n entry → (set rider : ℕ) → 0 < set → set < 2 ^ n → IsRider n set rider
    → entry rider (set - 2 ^ (rider - 1)) ≡ route_cost case (place_of case rider) (riders_in (set - 2 ^ (rider - 1)))
entry_behind case n entry h set rider some within is = behind case n entry h set rider some within is (λ at smaller below start. entries_are case n entry h at smaller start)

-- what the routes cost keeps the recurrence
pub are_costs : (case : FareCase) (n : ℕ) → AreEntries case n (costs_from case)
are_costs case n = record {
  none = λ at. cost_of_none case (start_of case at);
  each = λ at set start.
      route_of_set case (start_of case at) set start.some
      ∙ ap least (map_same_on (IsRider n set) (cost_by case (start_of case at) set) (entry_by case (costs_from case) at set) (riders_in set) (are_riders n set start.within)
      (λ rider is. ap (λ place. leg case.facts (start_of case at) (place_of case rider) + route_cost case place (riders_in (set - 2 ^ (rider - 1)))) (sym (start_place case rider is.low))));
}
