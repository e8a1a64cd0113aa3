-- Lines of sets that keep the recurrence say what routes cost, and lines that say what routes cost keep it.
use Rattle.std.proofs.Common.{◌≡◌, ℕ, zero, suc, ℤ, pos, ◌+◌, ◌-◌, ◌^◌, ◌<◌, ◌≤◌, ◌==◌, ◌↔◌, List, [], length, map, get_or, All, Contains, arith, refl, sym, ap, ◌∙◌, unsigned_abs}
use Rattle.std.specs.Int.{bit_at}
use Rattle.std.specs.List.{position_or_len}
use Rattle.std.proofs.lemmas.List.{get_or-map}
use Rattle.std.proofs.lemmas.List.Elements.{All-contains, Contains-get_or}
use Rattle.bid_rules.specs.declared.cases.FareCase.{FareCase}
use Rattle.bid_rules.specs.Coalitions.{riders_in, start_of}
use Rattle.bid_rules.specs.Facts.{leg}
use Rattle.bid_rules.specs.Fares.{least, place_of, route_cost}
use Rattle.cert_reader.specs.Sets.{starts}
use Rattle.best_laws.specs.Entries.{AreEntries, IsDeparture, cost_by, costs_from, entry_by, without}
use Rattle.fare_rules.specs.Entries.{HasLines, entry_of, line_of}
use Rattle.fare_rules.specs.Head.{AreCostLines, cost_line}
use Rattle.split_lemmas.proofs.FilteredLists.{placed}
use Rattle.split_lemmas.proofs.MappedLists.{map_same_on}
use Rattle.fare_rules.proofs.StartLists.{listed, starts_apart, starts_within}

module _
    (bits : (set rider : ℕ) → Contains (riders_in set) rider ↔ (1 ≤ rider) × (bit_at set (rider - 1) ≡ 1))
    (within : (n set : ℕ) → set < 2 ^ n ↔ All (λ rider. (1 ≤ rider) × (rider ≤ n)) (riders_in set))
    (number : (set rider : ℕ) → Contains (riders_in set) rider → 2 ^ (rider - 1) ≤ set)
    (apart : (set rider : ℕ) → Contains (riders_in set) rider → Contains (riders_in (without set rider)) rider → ⊥)
    (no_route : (case : FareCase) (from : ℕ) → route_cost case from (riders_in 0) ≡ 0)
    (recurrence : (case : FareCase) (from set : ℕ) → 0 < set → route_cost case from (riders_in set) ≡ least (map (cost_by case from set) (riders_in set)))
    (entries : (case : FareCase) (n : ℕ) (entry : ℕ → ℕ → ℕ) → AreEntries case n entry → (at set : ℕ) → IsDeparture n at set → entry at set ≡ costs_from case at set)
  where
    -- each listed start is one
    departures : (n set : ℕ) → 0 < set → set < 2 ^ n → All (λ at. IsDeparture n at set) (starts n set)
    departures n set some small k d l = record { some = some; within = small; known = starts_within n set k d l; outside = starts_apart bits n set k d l }

    -- lines that keep the recurrence are a table that keeps it
    pub are_entries : (case : FareCase) (n : ℕ) (lines : List (List ℤ)) → HasLines case n lines → AreEntries case n (entry_of n lines)
    are_entries case n lines h = record { none = λ at. refl; each = each }
      where
        each : (at set : ℕ) → IsDeparture n at set → entry_of n lines at set ≡ least (map (entry_by case (entry_of n lines) at set) (riders_in set))
        each at zero start = absurd (let some = start.some in omega arith)
        each at (suc before) start =
            let set : ℕ = suc before in
            let place : ℕ = position_or_len (λ other. other == at) (starts n set) in
            let at_place = placed at (starts n set) (listed bits n at set start) in
            let row : get_or lines before [] ≡ line_of case n lines set = ap (λ k. get_or lines k []) (let e : before ≡ set - 1 = omega arith in e) ∙ h set start.some start.within in
            ap (λ line. unsigned_abs (get_or line place (pos 0))) row
            ∙ ap unsigned_abs (get_or-map (λ other. pos (least (map (entry_by case (entry_of n lines) other set) (riders_in set)))) (starts n set) place 0 (pos 0) at_place.0
            ∙ ap (λ other. pos (least (map (entry_by case (entry_of n lines) other set) (riders_in set)))) at_place.1)

    -- such lines say what routes cost
    pub are_costs : (case : FareCase) (n : ℕ) (lines : List (List ℤ)) → HasLines case n lines → (set : ℕ) → 0 < set → set < 2 ^ n → get_or lines (set - 1) [] ≡ cost_line case n set
    are_costs case n lines h set some small =
        let table = are_entries case n lines h in
        h set some small ∙ map_same_on (λ at. IsDeparture n at set) (λ at. pos (least (map (entry_by case (entry_of n lines) at set) (riders_in set)))) (λ at. pos (costs_from case at set)) (starts n set)
        (departures n set some small)
        (λ at start. ap pos (sym (table.each at set start) ∙ entries case n (entry_of n lines) table at set start))

    -- an entry of lines that say what routes cost
    entry_cost : (case : FareCase) (n : ℕ) (lines : List (List ℤ)) → AreCostLines case n lines → 2 ^ n ≤ length lines + 1 → (at set : ℕ) → set < 2 ^ n → at ≤ n → (Contains (riders_in set) at → ⊥)
        → entry_of n lines at set ≡ costs_from case at set
    entry_cost case n lines are full at zero small low free = sym (no_route case (start_of case at))
    entry_cost case n lines are full at (suc before) small low free =
        let set : ℕ = suc before in
        let place : ℕ = position_or_len (λ other. other == at) (starts n set) in
        let start : IsDeparture n at set = record { some = omega arith; within = small; known = low; outside = free } in
        let at_place = placed at (starts n set) (listed bits n at set start) in
        let row : get_or lines before [] ≡ cost_line case n set = ap (λ k. get_or lines k []) (let e : before ≡ set - 1 = omega arith in e) ∙ are set (omega arith) (omega (arith, full, small)) in
        ap (λ line. unsigned_abs (get_or line place (pos 0))) row
        ∙ ap unsigned_abs (get_or-map (λ other. pos (costs_from case other set)) (starts n set) place 0 (pos 0) at_place.0 ∙ ap (λ other. pos (costs_from case other set)) at_place.1)

    -- what a rider who gets off first makes the route cost, by the table and by definition
    first_cost : (case : FareCase) (n : ℕ) (lines : List (List ℤ)) → AreCostLines case n lines → 2 ^ n ≤ length lines + 1 → (at set rider : ℕ) → set < 2 ^ n → Contains (riders_in set) rider
        → cost_by case (start_of case at) set rider ≡ entry_by case (entry_of n lines) at set rider
    first_cost case n lines are full at set rider small there =
        let known = All-contains (λ r. (1 ≤ r) × (r ≤ n)) (riders_in set) rider ((within n set).0 small) there in
        let rest : without set rider < 2 ^ n = (let less : without set rider ≤ set = omega arith in omega (arith, less, small)) in
        ap (λ cents. leg case.facts (start_of case at) (place_of case rider) + cents)
        (place_is rider known.0 ∙ sym (entry_cost case n lines are full rider (without set rider) rest known.1 (apart set rider there)))
      where
        place_is : (rider : ℕ) → 1 ≤ rider → route_cost case (place_of case rider) (riders_in (without set rider)) ≡ costs_from case rider (without set rider)
        place_is zero low = absurd (omega arith)
        place_is (suc k) low = refl

    -- lines that say what routes cost keep the recurrence
    pub has_lines : (case : FareCase) (n : ℕ) (lines : List (List ℤ)) → AreCostLines case n lines → 2 ^ n ≤ length lines + 1 → HasLines case n lines
    has_lines case n lines are full set some small =
        are set some (omega (arith, full, small))
        ∙ map_same_on (λ at. IsDeparture n at set) (λ at. pos (costs_from case at set)) (λ at. pos (least (map (entry_by case (entry_of n lines) at set) (riders_in set)))) (starts n set)
        (departures n set some small)
        (λ at start. ap pos (recurrence case (start_of case at) set some ∙ ap least (map_same_on (Contains (riders_in set)) (cost_by case (start_of case at) set) (entry_by case (entry_of n lines) at set) (riders_in set)
        (λ k d l. Contains-get_or (riders_in set) k d l)
        (λ rider there. first_cost case n lines are full at set rider small there))))
