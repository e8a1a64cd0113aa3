-- Lines of route costs keep the rule on lines, and hold the costs.
use Rattle.std.proofs.Common.{◌≡◌, ℕ, ℤ, zero, suc, pos, ◌+◌, ◌-◌, ◌^◌, ◌<◌, ◌≤◌, ◌==◌, ◌↔◌, List, [], length, map, get_or, unsigned_abs, All, Contains, arith, refl, sym, ap, ◌∙◌, subst}
use Rattle.std.specs.List.{position_or_len}
use Rattle.std.proofs.lemmas.List.{get_or-map}
use Rattle.std.proofs.lemmas.List.Elements.{Contains-get_or}
use Rattle.std.proofs.lemmas.List.FromFn.{get_or-map-range_with_len}
use Rattle.std.proofs.lemmas.Nat.{pow_pos}
use Rattle.bid_rules.specs.declared.cases.FareCase.{FareCase}
use Rattle.bid_rules.specs.Coalitions.{riders_in, start_of}
use Rattle.bid_rules.specs.Facts.{leg}
use Rattle.bid_rules.specs.Fares.{least, place_of, route_cost}
use Rattle.best_laws.specs.Entries.{AreEntries, IsDeparture, cost_by, costs_from, entry_by, without}
use Rattle.cert_reader.specs.Sets.{starts}
use Rattle.fare_rules.specs.Entries.{HasLines, entry_of}
use Rattle.split_lemmas.proofs.FilteredLists.{placed}
use Rattle.split_lemmas.proofs.MappedLists.{map_same, map_same_on}
use Rattle.split_lemmas.proofs.RiderPlaces.{start_place}
use Rattle.certificates.specs.FareLines.{cost_line, cost_lines}

-- what is known of sets of riders and of what their routes cost
pub record SetFacts : Type 0 where
  pub listed : (n at set : ℕ) → IsDeparture n at set → Contains (starts n set) at
  pub within : (n set : ℕ) → set < 2 ^ n ↔ All (λ rider. (1 ≤ rider) × (rider ≤ n)) (riders_in set)
  pub number : (set rider : ℕ) → Contains (riders_in set) rider → 2 ^ (rider - 1) ≤ set
  pub apart : (set rider : ℕ) → Contains (riders_in set) rider → Contains (riders_in (without set rider)) rider → ⊥
  pub none : (case : FareCase) (from : ℕ) → route_cost case from (riders_in 0) ≡ 0
  pub recurrence : (case : FareCase) (from set : ℕ) → 0 < set → route_cost case from (riders_in set) ≡ least (map (cost_by case from set) (riders_in set))

-- the line of a set
pub line_at : (case : FareCase) (set : ℕ) → 0 < set → set < 2 ^ length case.at.items → get_or (cost_lines case) (set - 1) [] ≡ cost_line case set
line_at case set some within = get_or-map-range_with_len (cost_line case) 1 (2 ^ length case.at.items - 1) (set - 1) set [] (omega arith) (omega arith)

-- its entry for a place of departure
pub entry_is : SetFacts → (case : FareCase) (at set : ℕ) → IsDeparture (length case.at.items) at set → entry_of (length case.at.items) (cost_lines case) at set ≡ costs_from case at set
entry_is facts case at zero start = absurd (let some = start.some in omega arith)
entry_is facts case at (suc before) start =
    let n = length case.at.items in
    let set : ℕ = suc before in
    let f : ℕ → ℤ = λ from. pos (costs_from case from set) in
    let there = placed at (starts n set) (facts.listed n at set start) in
    let k : ℕ = position_or_len (λ other. other == at) (starts n set) in
    let line : get_or (cost_lines case) before [] ≡ cost_line case set = ap (λ i. get_or (cost_lines case) i []) (let e : before ≡ set - 1 = omega arith in e) ∙ line_at case set start.some start.within in
    let own : get_or (cost_line case set) k (pos 0) ≡ f (get_or (starts n set) k 0) = get_or-map f (starts n set) k 0 (pos 0) there.0 in
    ap (λ (row : List ℤ). unsigned_abs (get_or row k (pos 0))) line ∙ ap unsigned_abs (own ∙ ap f there.1)

-- the entry after a rider of a set
entry_next : SetFacts → (case : FareCase) (set rider : ℕ) → set < 2 ^ length case.at.items → Contains (riders_in set) rider
    → entry_of (length case.at.items) (cost_lines case) rider (without set rider) ≡ route_cost case (place_of case rider) (riders_in (without set rider))
entry_next facts case set rider within here = by_set (without set rider) refl
  where
    range : (1 ≤ rider) × (rider ≤ length case.at.items)
    range = subst (λ r. (1 ≤ r) × (r ≤ length case.at.items)) here.2 ((facts.within (length case.at.items) set).0 within here.0 rider here.1)

    by_set : (rest : ℕ) → rest ≡ without set rider → entry_of (length case.at.items) (cost_lines case) rider rest ≡ route_cost case (place_of case rider) (riders_in rest)
    by_set zero e = sym (facts.none case (place_of case rider))
    by_set (suc rest) e =
        let start : IsDeparture (length case.at.items) rider (suc rest) = record {
          some = omega arith;
          within = (let power = pow_pos (rider - 1) in omega (arith, e, within));
          known = range.1;
          outside = subst (λ s. Contains (riders_in s) rider → ⊥) (sym e) (facts.apart set rider here);
        } in
        entry_is facts case rider (suc rest) start ∙ ap (λ (from : ℕ). route_cost case from (riders_in (suc rest))) (start_place case rider range.0)

-- each cost is the least over the riders
entry_least : SetFacts → (case : FareCase) (set at : ℕ) → 0 < set → set < 2 ^ length case.at.items
    → costs_from case at set ≡ least (map (entry_by case (entry_of (length case.at.items) (cost_lines case)) at set) (riders_in set))
entry_least facts case set at some within =
    facts.recurrence case (start_of case at) set some
    ∙ ap least (map_same_on (Contains (riders_in set)) (cost_by case (start_of case at) set) (entry_by case (entry_of (length case.at.items) (cost_lines case)) at set) (riders_in set)
    (λ k d l. Contains-get_or (riders_in set) k d l)
    (λ rider here. ap (λ c. leg case.facts (start_of case at) (place_of case rider) + c) (sym (entry_next facts case set rider within here))))

-- each set has its line
pub has_lines : SetFacts → (case : FareCase) → HasLines case (length case.at.items) (cost_lines case)
has_lines facts case set some within = line_at case set some within ∙ map_same (λ at. pos (costs_from case at set))
    (λ at. pos (least (map (entry_by case (entry_of (length case.at.items) (cost_lines case)) at set) (riders_in set)))) (starts (length case.at.items) set)
    (λ at. ap pos (entry_least facts case set at some within))

-- the table of the lines keeps the recurrence
pub are_entries : SetFacts → (case : FareCase) → AreEntries case (length case.at.items) (entry_of (length case.at.items) (cost_lines case))
are_entries facts case = record {
  none = λ at. refl;
  each = λ at set start. entry_is facts case at set start ∙ entry_least facts case set at start.some start.within;
}
