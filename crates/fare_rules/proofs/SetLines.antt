-- The lines of sets, one after another, and the row of costs that a line is compared with.
use Rattle.std.proofs.Common.{arith, ◌≡◌, ◌≤◌, ◌+◌, ◌-◌, ◌∙◌, ℕ, ℤ, pos, All, List, [], ◌∷◌, ◌++◌, length, map, get_or, ap, sym, refl, inr, unsigned_abs}
use Rattle.std.specs.List.{range_with_len}
use Rattle.std.proofs.lemmas.List.{length-append, length-map, get_or_append_left, get_or-append-add}
use Rattle.std.proofs.lemmas.List.Elements.{All-head, All-tail}
use Rattle.std.proofs.lemmas.List.FromFn.{get_or-map-range_with_len, length-range_with_len}
use Rattle.bid_rules.specs.declared.cases.FareCase.{FareCase}
use Rattle.bid_rules.specs.Coalitions.{riders_in, start_of}
use Rattle.bid_rules.specs.Fares.{route_cost}
use Rattle.cert_reader.specs.Sets.{starts}
use Rattle.set_costs.specs.Table.{route_costs}
use Rattle.fare_rules.specs.Head.{HasOtherLine, cost_line}
use Rattle.cert_reader.specs.Layout.{FaresView}
use Rattle.fare_rules.specs.Printed.{printed_case}
use Rattle.fare_rules.specs.State.{StandsFor}
use Rattle.fare_rules.specs.declared.state.FaresState.TheVariants.{Broken, Filling}
use Rattle.fare_rules.proofs.StartLists.{starts_within}

-- functions that agree up to a number give the same of numbers up to it
same_map : (n : ℕ) (f g : ℕ → ℤ) (xs : List ℕ) → All (λ x. x ≤ n) xs → ((x : ℕ) → x ≤ n → f x ≡ g x) → map f xs ≡ map g xs
same_map n f g [] low same = refl
same_map n f g (x ∷ xs) low same = ap (λ y. y ∷ map f xs) (same x (All-head (λ y. y ≤ n) x xs low)) ∙ ap (λ ys. g x ∷ ys) (same_map n f g xs (All-tail (λ y. y ≤ n) x xs low) same)

-- the entries of a row at the starts of its set are what its routes cost
pub row_line : (case : FareCase) (n set : ℕ) (row : List ℕ) → n ≡ length case.at.items → row ≡ route_costs case (riders_in set) → map (λ at. pos (get_or row at 0)) (starts n set) ≡ cost_line case n set
row_line case n set row count is = same_map n (λ at. pos (get_or row at 0)) (λ at. pos (route_cost case (start_of case at) (riders_in set))) (starts n set) (starts_within n set)
    (λ at low. ap (λ xs. pos (get_or xs at 0)) is
    ∙ ap pos (get_or-map-range_with_len (λ from. route_cost case (start_of case from) (riders_in set)) 0 (length case.at.items + 1) at at 0 (omega (arith, low, count)) (omega arith)))

-- how many entries a row has
pub row_length : (case : FareCase) (riders row : List ℕ) → row ≡ route_costs case riders → length row ≡ length case.at.items + 1
row_length case riders row is = ap length is ∙ length-map (range_with_len 0 (length case.at.items + 1)) (λ at. route_cost case (start_of case at) riders) ∙ length-range_with_len 0 (length case.at.items + 1)

-- a line that is not as it is to be stays among further ones
pub other_more : (case : FareCase) (n : ℕ) (taken : List (List ℤ)) (line : List ℤ) → HasOtherLine case n taken → HasOtherLine case n (taken ++ line ∷ [])
other_more case n taken line (set, some, within, other) = (
  set,
  some,
  omega (arith, within, length-append taken (line ∷ [])),
  λ same. other (sym (get_or_append_left taken (line ∷ []) [] (set - 1) (omega (arith, some, within))) ∙ same),
)

-- the line that comes last
last_line : (taken : List (List ℤ)) (line : List ℤ) → get_or (taken ++ line ∷ []) (length taken) [] ≡ line
last_line taken line = ap (λ k. get_or (taken ++ line ∷ []) k []) (let e : length taken ≡ length taken + 0 = omega arith in e) ∙ get_or-append-add taken (line ∷ []) 0 []

-- it may be the one that is not as it is to be
pub other_last : (case : FareCase) (n : ℕ) (taken : List (List ℤ)) (line : List ℤ) → (line ≡ cost_line case n (length taken + 1) → ⊥) → HasOtherLine case n (taken ++ line ∷ [])
other_last case n taken line other = (
  length taken + 1,
  omega arith,
  (let long = length-append taken (line ∷ []) in omega (arith, long)),
  λ same. other (sym (last_line taken line) ∙ ap (λ k. get_or (taken ++ line ∷ []) k []) (let e : length taken ≡ length taken + 1 - 1 = omega arith in e) ∙ same),
)

-- the line that the state waits for, in the words of the text
due_line : (view : FaresView) (case : FareCase) (rows taken : ℕ) → case ≡ printed_case view → rows ≡ taken + 1
    → cost_line case (length case.at.items) rows ≡ cost_line (printed_case view) (length view.at) (taken + 1)
due_line view case rows taken is long =
    ap (λ (k : FareCase). cost_line k (length k.at.items) rows) is ∙ ap (λ n. cost_line (printed_case view) n rows) (length-map view.at unsigned_abs) ∙ ap (cost_line (printed_case view) (length view.at)) long

-- the riders of the state are those of the text
pub rider_count : (view : FaresView) (case : FareCase) → case ≡ printed_case view → length case.at.items ≡ length view.at
rider_count view case is = ap (λ (k : FareCase). length k.at.items) is ∙ length-map view.at unsigned_abs

-- the next line is not as it is to be
pub stands_broken : (view : FaresView) (taken : List (List ℤ)) (line : List ℤ) (case : FareCase) (rows after : List (List ℕ)) → StandsFor view taken (Filling case) rows
    → (line ≡ cost_line case (length case.at.items) (length rows) → ⊥) → StandsFor view (taken ++ line ∷ []) (Broken 2) after
stands_broken view taken line case rows after stands other =
    inr (refl, stands.0, other_last (printed_case view) (length view.at) taken line (λ e. other (e ∙ sym (due_line view case (length rows) (length taken) stands.1 stands.3))))
