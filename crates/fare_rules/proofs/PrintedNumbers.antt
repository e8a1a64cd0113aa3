-- Printed numbers, as those of a case.
use Rattle.std.proofs.Common.{ℕ, ℤ, pos, ◌+◌, ◌≤◌, List, [], ◌∷◌, ◌++◌, length, map, get_or, flat_map, All, arith, subst, unsigned_abs, ◌≤ℤ◌}
use Rattle.std.proofs.lemmas.List.{length-map, length-append, get_or_append_left, get_or-append-add}
use Rattle.std.proofs.lemmas.List.Concat.{flat_map-cons}
use Rattle.std.proofs.lemmas.List.Elements.{All-nil, All-cons}
use Rattle.bid_rules.specs.declared.limits.TheConstants.{MOST_FARE_CENTS, PLACE_ROOM}
use Rattle.arrayvec.specs.declared.array_vec.ArrayVec.{ArrayVec}
use Rattle.split_lemmas.proofs.OrderLaws.{All-from_map}
use Rattle.rule_verdicts.specs.Ranges.{AreBetween}
use Rattle.split_lemmas.proofs.PrintedNumbers.{bounded_from, unsigned_row}

-- rows without signs
abbrev pub unsigned_rows : List (List ℤ) → List (ArrayVec ℕ PLACE_ROOM (Unit {0}))
unsigned_rows rows = map (unsigned_row PLACE_ROOM) rows

-- what holds of all parts together holds of each
pub all_parts : {X Y : Type 0} (P : Y → Type 0) (f : X → List Y) (xs : List X) → All P (flat_map f xs) → All (λ x. All P (f x)) xs
all_parts P f [] h = All-nil (λ x. All P (f x))
all_parts {X} {Y} P f (x ∷ xs) h =
    let both : All P (f x ++ flat_map f xs) = subst (All P) (flat_map-cons f x xs) h in
    let long = length-append (f x) (flat_map f xs) in
    All-cons (λ x. All P (f x)) x xs
    (λ i d l. subst P (get_or_append_left (f x) (flat_map f xs) d i l) (both i d (omega (arith, long, l))))
    (all_parts P f xs (λ i d l. subst P (get_or-append-add (f x) (flat_map f xs) i d) (both (length (f x) + i) d (omega (arith, long, l)))))

-- the legs of a printed case are from 0 to the limit of cents
pub legs_bounded : (rows : List (List ℤ)) → All (λ row. All (λ cents. pos 0 ≤ℤ cents) row) rows
    → All (λ cents. cents ≤ MOST_FARE_CENTS) (flat_map (λ row. row.items) (unsigned_rows rows)) → All (AreBetween 0 MOST_FARE_CENTS) rows
legs_bounded rows low high k d l =
    let parts = all_parts (λ cents. cents ≤ MOST_FARE_CENTS) (λ (row : ArrayVec ℕ PLACE_ROOM (Unit {0})). row.items) (unsigned_rows rows) high in
    let highs = All-from_map (λ (row : ArrayVec ℕ PLACE_ROOM (Unit {0})). All (λ cents. cents ≤ MOST_FARE_CENTS) row.items) (unsigned_row PLACE_ROOM) rows parts in
    let row : List ℤ = get_or rows k d in
    bounded_from 0 MOST_FARE_CENTS row (low k d l) (λ i m. highs k d l i 0 (omega (arith, m, length-map row unsigned_abs)))
