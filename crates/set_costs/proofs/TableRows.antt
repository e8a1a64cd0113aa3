-- The rows of the table: what they hold, and how the next one is made.
use Rattle.std.proofs.Common.{◌≡◌, ℕ, zero, suc, refl, ◌+◌, ◌<◌, ◌≤◌, List, [], ◌∷◌, ◌++◌, length, map, get_or, arith, sym, ap, ◌∙◌, subst}
use Rattle.std.specs.List.{range_with_len}
use Rattle.std.proofs.lemmas.List.{get_or-map, length-map}
use Rattle.std.proofs.lemmas.List.FromFn.{length-map-range_with_len, get_or-map-range_with_len, map-range_with_len_more}
use Rattle.bid_rules.specs.declared.cases.FareCase.{FareCase}
use Rattle.bid_rules.specs.Coalitions.{riders_in, start_of}
use Rattle.bid_rules.specs.Fares.{least, route_cost}
use Rattle.best_laws.specs.Entries.{cost_by}
use Rattle.set_costs.specs.FirstStops.{cost_with, stop_of}
use Rattle.set_costs.specs.declared.stops.FirstStop.{FirstStop}
use Rattle.set_costs.specs.Table.{ListsCosts, route_costs}

-- a row holds the costs of the routes of its set
pub row_is : {X : Type 0} (f : X → List ℕ) (case : FareCase) (rows : List X) (set : ℕ) (row : X) → ListsCosts case (map f rows) → set < length rows → row ≡ get_or rows set row → f row ≡ route_costs case (riders_in set)
row_is f case rows set row lists small is =
    let g : ℕ → List ℕ = λ s. route_costs case (riders_in s) in
    ap f is ∙ sym (get_or-map f rows set row (f row) small)
    ∙ ap (λ t. get_or t set (f row)) lists.table
    ∙ get_or-map-range_with_len g 0 (length (map f rows)) set set (f row) (subst (λ n. set < n) (sym (length-map rows f)) small) (omega arith)

-- an entry for the origin and for each rider
pub entry_within : (case : FareCase) (set at : ℕ) (row : List ℕ) → row ≡ route_costs case (riders_in set) → at ≤ length case.at.items → at < length row
entry_within case set at row is within =
    omega (arith, ap length is, length-map-range_with_len (λ at. route_cost case (start_of case at) (riders_in set)) 0 (length case.at.items + 1), within)

-- which is what the route costs from there
pub entry_is : (case : FareCase) (set at : ℕ) (row : List ℕ) → row ≡ route_costs case (riders_in set) → at ≤ length case.at.items → get_or row at 0 ≡ route_cost case (start_of case at) (riders_in set)
entry_is case set at row is within =
    ap (λ xs. get_or xs at 0) is ∙ get_or-map-range_with_len (λ at. route_cost case (start_of case at) (riders_in set)) 0 (length case.at.items + 1) at at 0 (omega (arith, within)) (omega arith)

-- a list by index grows by the next value
pub listed_by_index : {X : Type 0} (f : ℕ → X) (old new : List X) (n : ℕ) (x : X) → x ≡ f n → new ≡ old ++ x ∷ [] → old ≡ map f (range_with_len 0 n) → new ≡ map f (range_with_len 0 (n + 1))
listed_by_index f old new n x value e is = e ∙ ap (λ xs. xs ++ x ∷ []) is ∙ ap (λ y. map f (range_with_len 0 n) ++ y ∷ []) value ∙ sym (map-range_with_len_more f 0 n n (omega arith))

-- a list of what is made of what is made
made_twice : {X Y Z : Type 0} (f : Y → Z) (g : X → Y) (xs : List X) → map f (map g xs) ≡ map (λ x. f (g x)) xs
made_twice f g [] = refl
made_twice f g (x ∷ xs) = ap (λ ys. f (g x) ∷ ys) (made_twice f g xs)

-- the cheapest route with one of the first stops of a set is the route of the set
pub route_is : (case : FareCase) (from set : ℕ) (stops : List FirstStop) → stops ≡ map (stop_of case set) (riders_in set) → riders_in 0 ≡ [] → route_cost case from (riders_in 0) ≡ 0
    → (0 < set → route_cost case from (riders_in set) ≡ least (map (cost_by case from set) (riders_in set))) → least (map (cost_with case from) stops) ≡ route_cost case from (riders_in set)
route_is case from zero stops is none nobody some =
    ap (λ xs. least (map (cost_with case from) xs)) (is ∙ ap (map (stop_of case zero)) none) ∙ sym nobody
route_is case from (suc set) stops is none nobody some =
    ap (λ xs. least (map (cost_with case from) xs)) is ∙ ap least (made_twice (cost_with case from) (stop_of case (suc set)) (riders_in (suc set))) ∙ sym (some (omega arith))
