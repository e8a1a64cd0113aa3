-- Where a leg is among all legs, row by row.
use Rattle.std.proofs.Common.{◌≡◌, ℕ, zero, suc, ◌+◌, ◌-◌, ◌*◌, ◌<◌, ◌≤◌, List, [], ◌∷◌, length, take, get_or, slice_index, All, flat_map, arith, sym, ap, ◌∙◌}
use Rattle.std.proofs.Math.Seq.{take-length}
use Rattle.std.proofs.lemmas.List.{length-append}
use Rattle.std.proofs.lemmas.List.Concat.{get_or-flat_map}
use Rattle.std.proofs.lemmas.List.Elements.{All-head, All-tail}
use Rattle.arrayvec.specs.declared.array_vec.ArrayVec.{ArrayVec}
use Rattle.bid_rules.specs.declared.limits.TheConstants.{PLACE_ROOM}
use Rattle.bid_rules.specs.declared.fares.Fares.{Fares}
use Rattle.bid_rules.specs.Facts.{HasTable, leg, legs_in_order}

-- as many rows have so many times their length
length-rows : {X : Type 0} (f : X → List ℕ) (xs : List X) (i columns : ℕ) → i ≤ length xs → All (λ x. length (f x) ≡ columns) xs → length (flat_map f (take i xs)) ≡ i * columns
length-rows f xs zero columns l h = omega arith
length-rows f [] (suc i) columns l h = absurd (omega arith)
length-rows {X} f (x ∷ xs) (suc i) columns l h =
    let Full : X → Type 0 = λ x. length (f x) ≡ columns in
    let head : length (f x) ≡ columns = All-head Full x xs h in
    let rest : length (flat_map f (take i xs)) ≡ i * columns = length-rows f xs i columns (omega arith) (All-tail Full x xs h) in
    length-append (f x) (flat_map f (take i xs)) ∙ omega (arith, head, rest)

-- the number in a row and a column
number_at : {X : Type 0} (f : X → List ℕ) (xs : List X) (none : X) (i j columns : ℕ) → i < length xs → j < columns → All (λ x. length (f x) ≡ columns) xs
    → get_or (flat_map f xs) (i * columns + j) 0 ≡ get_or (f (get_or xs i none)) j 0
number_at f xs none i j columns l m h =
    let before : i * columns ≡ length (flat_map f (take i xs)) = sym (length-rows f xs i columns (omega arith) h) in
    let full : length (f (get_or xs i none)) ≡ columns = h i none l in
    ap (λ n. get_or (flat_map f xs) (n + j) 0) before ∙ get_or-flat_map f xs i j none 0 l (omega (arith, full))

-- the leg in a row and a column comes after the flag fall and the legs before it
pub leg_at : (facts : Fares) (row column : ℕ) → HasTable facts → row ≤ facts.places → column < facts.places
    → slice_index (facts.flag ∷ legs_in_order facts) (1 + row * facts.places + column) ≡ leg facts row (column + 1)
leg_at facts row column table l m =
    let after : 1 + row * facts.places + column ≡ suc (row * facts.places + column) = omega arith in
    let same : column ≡ column + 1 - 1 = omega arith in
    let rows : length facts.legs.items ≡ facts.places + 1 = table.rows in
    ap (λ n. get_or (facts.flag ∷ legs_in_order facts) n 0) after
    ∙ number_at (λ row. row.items) facts.legs.items (record { items = [] }) row column facts.places (omega arith) m table.columns
    ∙ ap (λ n. get_or (get_or facts.legs.items row (record { items = [] })).items n 0) same

-- there are as many legs as the table has entries
pub length-legs : (facts : Fares) → HasTable facts → length (legs_in_order facts) ≡ (facts.places + 1) * facts.places
length-legs facts table =
    let rows : List (ArrayVec ℕ PLACE_ROOM (Unit {0})) = facts.legs.items in
    ap (λ rs. length (flat_map (λ row. row.items) rs)) (sym (take-length rows))
    ∙ length-rows (λ row. row.items) rows (length rows) facts.places (omega arith) table.columns
    ∙ ap (λ n. n * facts.places) table.rows
