-- How the least route is found going forward.
use Rattle.std.proofs.Common.{◌≡◌, ℕ, ◌+◌, ◌-◌, ◌^◌, ◌≤◌, List, [], ◌∷◌, ◌++◌, length, Contains, sym, ap, ◌∙◌, subst, append_assoc}
use Rattle.bid_rules.specs.declared.cases.FareCase.{FareCase}
use Rattle.bid_rules.specs.Coalitions.{riders_in, start_of}
use Rattle.bid_rules.specs.Facts.{leg}
use Rattle.bid_rules.specs.Fares.{place_of, route_cost}
use Rattle.best_laws.specs.Entries.{IsLowestRoute, cost_by, costs_from, entry_by, without}
use Rattle.split_lemmas.proofs.RiderPlaces.{start_place}

-- whatever way the rest of the riders has from here completes the route from the origin
abbrev pub GoesOn : FareCase → List ℕ → ℕ → ℕ → Type 0
GoesOn case route at set = (rest : List ℕ) → IsLowestRoute case (costs_from case) at set rest → IsLowestRoute case (costs_from case) 0 (2 ^ length case.at.items - 1) (route ++ rest)

-- who gets off first of a set: the lowest rider by whom the route from a place is cheapest
pub record IsFirst (case : FareCase) (from set rider : ℕ) : Type 0 where
  pub there : Contains (riders_in set) rider
  pub cheapest : route_cost case from (riders_in set) ≡ cost_by case from set rider
  pub lowest : (other : ℕ) → Contains (riders_in set) other → cost_by case from set other ≡ cost_by case from set rider → rider ≤ other

-- the entry of a table of costs by a rider is the cost by the rider
entry_is_by : (case : FareCase) (at set rider : ℕ) → 1 ≤ rider → entry_by case (costs_from case) at set rider ≡ cost_by case (start_of case at) set rider
entry_is_by case at set rider low = ap (λ place. leg case.facts (start_of case at) (place_of case rider) + route_cost case place (riders_in (without set rider))) (start_place case rider low)

-- one step further
pub goes_further : (case : FareCase) (at set rider left : ℕ) (old new : List ℕ) → ((other : ℕ) → Contains (riders_in set) other → 1 ≤ other) → IsFirst case (start_of case at) set rider
    → left ≡ without set rider → new ≡ old ++ rider ∷ [] → GoesOn case old at set → GoesOn case new rider left
goes_further case at set rider left old new low first is longer goes rest lowest =
    let by : (r : ℕ) → Contains (riders_in set) r → entry_by case (costs_from case) at set r ≡ cost_by case (start_of case at) set r = λ r there. entry_is_by case at set r (low r there) in
    let joined : new ++ rest ≡ old ++ rider ∷ rest = ap (λ xs. xs ++ rest) longer ∙ append_assoc old (rider ∷ []) rest in
    let attained : entry_by case (costs_from case) at set rider ≡ costs_from case at set = by rider first.there ∙ sym first.cheapest in
    subst (IsLowestRoute case (costs_from case) 0 (2 ^ length case.at.items - 1)) (sym joined) (goes (rider ∷ rest) (
      first.there,
      attained,
      λ other there e. first.lowest other there (sym (by other there) ∙ e ∙ sym attained ∙ by rider first.there),
      subst (λ s. IsLowestRoute case (costs_from case) rider s rest) is lowest,
    ))
