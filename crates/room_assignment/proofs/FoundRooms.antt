-- From a matched plan over the keys to the rooms, the longest walks on the left and the dual numbers on the right.
use Rattle.std.proofs.Common.{◌≡◌, ℕ, ℤ, pos, suc, zero, ◌+◌, ◌-◌, ◌<◌, ◌≤◌, ◌+ℤ◌, ◌-ℤ◌, ◌≤ℤ◌, List, [], ◌∷◌, length, All, map, get_or, unsigned_abs, arith, refl, sym, ap, ◌∙◌, subst, ◌*◌}
use Rattle.std.specs.List.{range_with_len}
use Rattle.std.specs.List.Sorted.{IsPermutation}
use Rattle.std.proofs.lemmas.Int.{ints}
use Rattle.std.proofs.lemmas.List.{get_or-map}
use Rattle.std.proofs.lemmas.List.Elements.{All-head, All-tail, All-cons, All-from_get_or}
use Rattle.std.proofs.lemmas.List.Sorted.{IsPermutation-map}
use Rattle.bid_rules.specs.declared.rents.RentCase.{RentCase}
use Rattle.bid_rules.specs.Rent.{room_count, IsAssignment}
use Rattle.bid_rules.specs.Walks.{walk_weight, AreVertices, HasNoPositiveCycle, AreGreatestWeights, AreRanks}
use Rattle.room_assignment.specs.Matrix.{Matrix, IsSquare, entry}
use Rattle.room_assignment.specs.Tree.{AreKeys, IsMatched, IsMatchedPlan, numbers}
use Rattle.room_assignment.specs.declared.tree.Plan.{Plan}
use Rattle.arrayvec.specs.declared.array_vec.ArrayVec.{ArrayVec}
use Rattle.bid_rules.specs.declared.limits.TheConstants.{MOST_MEMBERS}
use Rattle.bid_rules.specs.Keys.{key, key_step, AreDualNumbers}
use Rattle.room_assignment.specs.declared.limits.TheConstants.{DUAL_LIMIT, MOST_KEY, MOST_STEP}
use Rattle.room_assignment.specs.Entries.{HasEntries}
use Rattle.room_assignment.specs.Tree.{IsRight}
use Rattle.split_lemmas.proofs.Permutations.{permutation_length, permutation_below, permutation_apart}

-- a row of a matrix
abbrev pub Row : Type 0
Row = ArrayVec ℤ 12 (Unit {0})

-- numbers by vertex that each step respects leave no cycle of a positive weight
abbrev pub LeaveNoCycle : Type 0
LeaveNoCycle = (n : ℕ) (step : ℕ → ℕ → ℤ) (number : ℕ → ℤ) → ((from to : ℕ) → from < n → to < n → step from to ≤ℤ (number to -ℤ number from)) → HasNoPositiveCycle n step

-- matched rooms leave no positive cycle over the keys
matched_no_cycle : LeaveNoCycle → (n : ℕ) (k w : ℕ → ℕ → ℤ) (left right : ℕ → ℤ) (rooms : List ℕ) → IsMatched n n k left right rooms
    → ((from to : ℕ) → from < n → to < n → w from to ≡ k to (get_or rooms from 0) -ℤ k from (get_or rooms from 0)) → HasNoPositiveCycle n w
matched_no_cycle no_cycle n k w left right rooms s is = no_cycle n w left (λ from to l m.
    let room = permutation_below n rooms from s.permutation l in
    let a = s.bound to (get_or rooms from 0) m room in
    let b = s.tight from l in
    let c = is from to l m in
    omega (arith, ints))

-- walks over steps that are equal
pub walk_same : (n : ℕ) (w u : ℕ → ℕ → ℤ) → ((from to : ℕ) → from < n → to < n → w from to ≡ u from to) → (to : ℕ) (before : List ℕ) → to < n → AreVertices n before → walk_weight w to before ≡ walk_weight u to before
walk_same n w u same to [] l h = refl
walk_same n w u same to (x ∷ xs) l h =
    let known : x < n = All-head (λ j. j < n) x xs h in
    let rest = walk_same n w u same x xs known (All-tail (λ j. j < n) x xs h) in
    let a = same x to known l in
    omega (arith, ints, rest, a)

-- greatest weights over steps that are equal
pub greatest_same : (n : ℕ) (w u : ℕ → ℕ → ℤ) (weights : List ℤ) → ((from to : ℕ) → from < n → to < n → w from to ≡ u from to) → AreGreatestWeights n w weights → AreGreatestWeights n u weights
greatest_same n w u weights same h = record {
  count = h.count;
  each = λ i l.
      let g = h.each i l in
      let there = g.attained in
      record {
        attained = (there.0, there.1, sym (walk_same n w u same i there.0 l there.1) ∙ there.2);
        greatest = λ before v. subst (λ z. z ≤ℤ get_or weights i (pos 0)) (walk_same n w u same i before l v) (g.greatest before v);
      };
}

-- ranks over steps that are equal
pub ranks_same : (n : ℕ) (w u : ℕ → ℕ → ℤ) (weights : List ℤ) (ranks : List ℕ) → ((from to : ℕ) → from < n → to < n → w from to ≡ u from to) → AreRanks n w weights ranks → AreRanks n u weights ranks
ranks_same n w u weights ranks same h = record {
  count = h.count;
  each = λ i l.
      let g = h.each i l in
      let there = g.attained in
      record {
        attained = (there.0, there.1, sym (walk_same n w u same i there.0 l there.1) ∙ there.2, there.3);
        least = λ before v e. g.least before v (walk_same n w u same i before l v ∙ e);
      };
}

-- rooms counted from 0, and from 1
pub range_up : (a n : ℕ) → map (λ r. r + 1) (range_with_len a n) ≡ range_with_len (a + 1) n
range_up a zero = refl
range_up a (suc n) = ap (λ xs. (a + 1) ∷ xs) (range_up (a + 1) n)

-- the rooms that were found, with what shows them
pub record AreFoundRooms (case : RentCase) (rooms : List ℕ) (left right : List ℤ) : Type 0 where
  pub assignment : IsAssignment case rooms
  pub lefts : AreGreatestWeights (room_count case) (key_step case rooms) left
  pub dual : AreDualNumbers case rooms left right

-- matched rooms, their walks and their dual numbers are those of an answer
pub best_is : (case : RentCase) (k w : ℕ → ℕ → ℤ) (duals_left duals_right : ℕ → ℤ) (rooms shown : List ℕ) (left right : List ℤ)
    → IsMatched (room_count case) (room_count case) k duals_left duals_right rooms
    → ((i j : ℕ) → i < room_count case → j < room_count case → k i j ≡ key case i (j + 1))
    → ((from to : ℕ) → from < room_count case → to < room_count case → w from to ≡ k to (get_or rooms from 0) -ℤ k from (get_or rooms from 0))
    → AreGreatestWeights (room_count case) w left → length right ≡ room_count case
    → ((j : ℕ) → j < room_count case → IsRight (room_count case) k rooms left j (numbers right j))
    → shown ≡ map (λ r. r + 1) rooms → AreFoundRooms case shown left right
best_is case k w duals_left duals_right rooms shown left right s is steps longest count rights e =
    let n = room_count case in
    let places = permutation_length 0 n rooms s.permutation in
    let at : (i : ℕ) → i < n → get_or shown i 0 ≡ get_or rooms i 0 + 1 = λ i l. ap (λ xs. get_or xs i 0) e ∙ get_or-map (λ r. r + 1) rooms i 0 0 (omega arith) in
    let permutation : IsPermutation (range_with_len 1 n) shown = subst (λ xs. IsPermutation xs shown) (range_up 0 n) (subst (λ ys. IsPermutation (map (λ r. r + 1) (range_with_len 0 n)) ys) (sym e) (IsPermutation-map (λ r. r + 1) (range_with_len 0 n) rooms s.permutation)) in
    let reached : (i : ℕ) → i < n → numbers left i +ℤ numbers right (get_or shown i 0 - 1) ≡ key case i (get_or shown i 0) = λ i l.
    let room = permutation_below n rooms i s.permutation l in
    let r = rights (get_or rooms i 0) room in
    let same : r.0 ≡ i = permutation_apart 0 n rooms r.0 i s.permutation r.1 l r.2 in
    let there : get_or shown i 0 - 1 ≡ get_or rooms i 0 = let a = at i l in omega arith in
    let value : numbers right (get_or shown i 0 - 1) ≡ k i (get_or rooms i 0) -ℤ numbers left i = ap (numbers right) there ∙ r.3 ∙ ap (λ j. k j (get_or rooms i 0) -ℤ numbers left j) same in
    let known : k i (get_or rooms i 0) ≡ key case i (get_or shown i 0) = is i (get_or rooms i 0) l room ∙ ap (key case i) (sym (at i l)) in
    omega (arith, ints, value, known) in
    let bound : (i room : ℕ) → i < n → 1 ≤ room → room ≤ n → key case i room ≤ℤ (numbers left i +ℤ numbers right (room - 1)) = λ i room l a b.
    let j = room - 1 in
    let inside : j < n = omega arith in
    let r = rights j inside in
    let there = (longest.each r.0 r.1).attained in
    let step = (longest.each i l).greatest (r.0 ∷ there.0) (All-cons (λ v. v < n) r.0 there.0 r.1 there.1) in
    let weight = steps r.0 i r.1 l in
    let own : k i (get_or rooms r.0 0) -ℤ k r.0 (get_or rooms r.0 0) ≡ k i j -ℤ k r.0 j = ap (λ v. k i v -ℤ k r.0 v) r.2 in
    let up : j + 1 ≡ room = omega arith in
    let known : k i j ≡ key case i room = is i j l inside ∙ ap (key case i) up in
    omega (arith, ints, step, there.2, weight, own, known, r.3) in
    record {
      assignment = permutation;
      lefts = greatest_same n w (key_step case shown) left (λ from to l m.
          let room = permutation_below n rooms from s.permutation l in
          let one = is to (get_or rooms from 0) m room ∙ ap (key case to) (sym (at from l)) in
          let two = is from (get_or rooms from 0) l room ∙ ap (key case from) (sym (at from l)) in
          let three = steps from to l m in
          omega (arith, ints, one, two, three)) longest;
      dual = record { lefts = longest.count; rights = count; bound = bound; reached = reached };
    }

-- an entry is the value of the function
pub entry_is : (n limit : ℕ) (f : ℕ → ℕ → ℤ) (m : Matrix) (i j : ℕ) → HasEntries n limit f m → i < n → j < n → entry m i j ≡ f i j
unfolding entry
entry_is n limit f m i j h l k = (h.rows i l).values j k

-- a matrix of small entries is square
pub entries_square : (n limit : ℕ) (f : ℕ → ℕ → ℤ) (m : Matrix) → HasEntries n limit f m → limit ≤ MOST_STEP → IsSquare m
entries_square n limit f m h few =
    let none : Row = record { items = [] } in
    record {
      columns = All-from_get_or (λ (row : Row). length row.items ≡ length m.items) m.items none (λ i l. (h.rows i (subst (λ k. i < k) h.rows_count l)).count ∙ sym h.rows_count);
      small = All-from_get_or (λ (row : Row). All (λ weight. unsigned_abs weight ≤ MOST_STEP) row.items) m.items none (λ i l.
          let row = h.rows i (subst (λ k. i < k) h.rows_count l) in
          All-from_get_or (λ weight. unsigned_abs weight ≤ MOST_STEP) (get_or m.items i none).items (pos 0) (λ j k.
          let inside = subst (λ z. j < z) row.count k in let a = row.row_small j inside in omega (arith, a, few)));
    }

-- a matrix of small entries holds keys
pub entries_keys : (n : ℕ) (f : ℕ → ℕ → ℤ) (m : Matrix) → HasEntries n MOST_KEY f m → 1 ≤ n → n ≤ 12 → AreKeys m
unfolding entry
entries_keys n f m h some few = record {
  square = entries_square n MOST_KEY f m h (omega arith);
  some = let e = h.rows_count in omega arith;
  few = let e = h.rows_count in omega arith;
  keys_small = λ i j l k. (h.rows i (subst (λ z. i < z) h.rows_count l)).row_small j (subst (λ z. j < z) h.rows_count k);
}

-- the rooms of a matched plan, read from a slice
pub plan_rooms : (keys : Matrix) (plan : Plan) (m : ℕ) (slice : List ℕ) → IsMatchedPlan m keys plan → slice ≡ plan.rooms.items → IsPermutation (range_with_len 0 (length keys.items)) slice
plan_rooms keys plan m slice s e = subst (λ xs. IsPermutation (range_with_len 0 (length keys.items)) xs) (sym e) s.matched.permutation

-- the rooms of a permutation are below n
pub rooms_below : (n : ℕ) (slice : List ℕ) → IsPermutation (range_with_len 0 n) slice → All (λ room. room < n) slice
rooms_below n slice h = All-from_get_or (λ room. room < n) slice 0 (λ i l. let count = permutation_length 0 n slice h in permutation_below n slice i h (omega arith))

-- the matrix of steps over the keys has no positive cycle
pub steps_no_cycle : LeaveNoCycle → (keys steps : Matrix) (plan : Plan) (slice : List ℕ) → IsMatchedPlan (length keys.items) keys plan → slice ≡ plan.rooms.items
    → HasEntries (length keys.items) MOST_STEP (λ from to. entry keys to (get_or slice from 0) -ℤ entry keys from (get_or slice from 0)) steps → HasNoPositiveCycle (length steps.items) (entry steps)
steps_no_cycle no_cycle keys steps plan slice s e h = subst (λ n. HasNoPositiveCycle n (entry steps)) (sym h.rows_count)
    (matched_no_cycle no_cycle (length keys.items) (entry keys) (entry steps) (numbers plan.left.items) (numbers plan.right.items) plan.rooms.items s.matched
    (λ from to l m. entry_is (length keys.items) MOST_STEP (λ from to. entry keys to (get_or slice from 0) -ℤ entry keys from (get_or slice from 0)) steps from to h l m
    ∙ ap (λ (xs : List ℕ). entry keys to (get_or xs from 0) -ℤ entry keys from (get_or xs from 0)) e))

-- the same, read from the matrices and slices of the code
pub best_of_parts : (case : RentCase) (keys steps : Matrix) (plan : Plan) (one two three shown : List ℕ) (left right read : List ℤ)
    → HasEntries (room_count case) MOST_KEY (λ i j. key case i (j + 1)) keys → IsMatchedPlan (length keys.items) keys plan
    → HasEntries (length keys.items) MOST_STEP (λ from to. entry keys to (get_or one from 0) -ℤ entry keys from (get_or one from 0)) steps
    → AreGreatestWeights (length steps.items) (entry steps) left → length right ≡ length keys.items
    → ((j : ℕ) → j < length keys.items → IsRight (length keys.items) (entry keys) two read j (numbers right j))
    → one ≡ plan.rooms.items → two ≡ plan.rooms.items → three ≡ plan.rooms.items → read ≡ left → shown ≡ map (λ r. r + 1) three → AreFoundRooms case shown left right
best_of_parts case keys steps plan one two three shown left right read k s h longest count rights e f g x y =
    let n = room_count case in
    let same : length keys.items ≡ n = k.rows_count in
    let all : length steps.items ≡ n = h.rows_count ∙ same in
    best_is case (entry keys) (entry steps) (numbers plan.left.items) (numbers plan.right.items) plan.rooms.items shown left right
    (subst (λ m. IsMatched m m (entry keys) (numbers plan.left.items) (numbers plan.right.items) plan.rooms.items) same s.matched)
    (λ i j l m. entry_is n MOST_KEY (λ i j. key case i (j + 1)) keys i j k l m)
    (λ from to l m. entry_is (length keys.items) MOST_STEP (λ from to. entry keys to (get_or one from 0) -ℤ entry keys from (get_or one from 0)) steps from to h (subst (λ z. from < z) (sym same) l) (subst (λ z. to < z) (sym same) m)
    ∙ ap (λ (xs : List ℕ). entry keys to (get_or xs from 0) -ℤ entry keys from (get_or xs from 0)) e)
    (subst (λ m. AreGreatestWeights m (entry steps) left) all longest) (count ∙ same)
    (λ j l. subst (λ m. IsRight m (entry keys) plan.rooms.items left j (numbers right j)) same
    (subst (λ (zs : List ℤ). IsRight (length keys.items) (entry keys) plan.rooms.items zs j (numbers right j)) x
    (subst (λ (xs : List ℕ). IsRight (length keys.items) (entry keys) xs read j (numbers right j)) f (rights j (subst (λ z. j < z) (sym same) l)))))
    (y ∙ ap (map (λ r. r + 1)) g)

-- the dual numbers of the rooms are small where the weights and the numbers of the members are
pub rights_small : (n : ℕ) (k : ℕ → ℕ → ℤ) (rooms : List ℕ) (left right : List ℤ) → length right ≡ n → ((i j : ℕ) → i < n → j < n → unsigned_abs (k i j) ≤ MOST_KEY) → length left ≡ n → All (λ z. unsigned_abs z ≤ MOST_MEMBERS * MOST_STEP) left
    → ((j : ℕ) → j < n → IsRight n k rooms left j (numbers right j)) → All (λ z. unsigned_abs z < DUAL_LIMIT) right
rights_small n k rooms left right count weights lefts small each = All-from_get_or (λ z. unsigned_abs z < DUAL_LIMIT) right (pos 0) (λ j l.
    let known : j < n = omega (arith, l, count) in
    let there = each j known in
    let a = weights there.0 j there.1 known in
    let b = small there.0 (pos 0) (omega (arith, there.1, lefts)) in
    let is = there.3 in
    omega (arith, ints, a, b, is))
