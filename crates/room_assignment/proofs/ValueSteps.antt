-- An assignment of greatest welfare leaves no positive cycle over the values, since dual numbers of the values are found.
use Rattle.std.proofs.Common.{◌≡◌, ℕ, ℤ, pos, ◌++◌, [], ◌∷◌, length, All, ◌+◌, ◌-◌, ◌<◌, ◌≤◌, ◌+ℤ◌, ◌-ℤ◌, ◌≤ℤ◌, List, map, get_or, arith, sym, ap, ◌∙◌, subst}
use Rattle.std.specs.List.{range_with_len}
use Rattle.std.specs.List.Sorted.{IsPermutation}
use Rattle.std.proofs.lemmas.Int.{ints}
use Rattle.std.proofs.lemmas.List.{get_or-map, length-map}
use Rattle.std.proofs.lemmas.List.Elements.{All-append, All-cons, All-nil, All-from_get_or}
use Rattle.std.proofs.lemmas.List.Sorted.{IsPermutation-map}
use Rattle.bid_rules.specs.declared.rents.RentCase.{RentCase}
use Rattle.bid_rules.specs.Walks.{HasNoPositiveCycle, AreGreatestWeights, AreRanks}
use Rattle.room_assignment.specs.Matrix.{Matrix, entry}
use Rattle.room_assignment.specs.Tree.{IsMatched, IsMatchedPlan, numbers}
use Rattle.room_assignment.specs.declared.tree.Plan.{Plan}
use Rattle.bid_rules.specs.Maximin.{value_step}
use Rattle.bid_rules.specs.Rent.{value, room_count, IsAssignment}
use Rattle.bid_rules.specs.Keys.{HasGreatestWelfare}
use Rattle.room_assignment.specs.declared.limits.TheConstants.{MOST_KEY, MOST_STEP}
use Rattle.room_assignment.specs.Entries.{HasEntries}
use Rattle.split_lemmas.proofs.Permutations.{permutation_length, permutation_below}
use Rattle.split_lemmas.proofs.RoomPlaces.{rooms_length, room_range}
use Rattle.room_assignment.proofs.FoundRooms.{range_up, walk_same, greatest_same, ranks_same, entry_is}

-- numbers by member and by room that bound every value, and that some assignment reaches, leave no cycle over the values of a positive weight
abbrev pub LeaveNoValueCycle : Type 0
LeaveNoValueCycle = (case : RentCase) (rooms others : List ℕ) (left right : ℕ → ℤ) → HasGreatestWelfare case rooms → IsAssignment case others
    → ((member room : ℕ) → member < room_count case → 1 ≤ room → room ≤ room_count case → value case member room ≤ℤ (left member +ℤ right room))
    → ((member : ℕ) → member < room_count case → left member +ℤ right (get_or others member 0) ≡ value case member (get_or others member 0))
    → HasNoPositiveCycle (room_count case) (value_step case rooms)

-- a matched plan over the values shows that an assignment of greatest welfare leaves no positive cycle
matched_values : LeaveNoValueCycle → (case : RentCase) (s others : List ℕ) (left right : ℕ → ℤ) → IsMatched (room_count case) (room_count case) (λ i j. value case i (j + 1)) left right others → HasGreatestWelfare case s
    → HasNoPositiveCycle (room_count case) (value_step case s)
matched_values values_no_cycle case s others left right d best =
    let n = room_count case in
    let t = map (λ r. r + 1) others in
    let places = permutation_length 0 n others d.permutation in
    let assignment : IsAssignment case t = subst (λ xs. IsPermutation xs t) (range_up 0 n) (IsPermutation-map (λ r. r + 1) (range_with_len 0 n) others d.permutation) in
    values_no_cycle case s t left (λ room. right (room - 1)) best assignment
    (λ i r l a b.
    let up : r - 1 + 1 ≡ r = omega arith in
    subst (λ room. value case i room ≤ℤ (left i +ℤ right (r - 1))) up (d.bound i (r - 1) l (omega arith)))
    (λ i l.
    let at : get_or t i 0 ≡ get_or others i 0 + 1 = get_or-map (λ r. r + 1) others i 0 0 (omega arith) in
    let down : get_or t i 0 - 1 ≡ get_or others i 0 = omega (arith, at) in
    ap (λ r. left i +ℤ right r) down ∙ d.tight i l ∙ ap (value case i) (sym at))

-- steps that are equal
no_cycle_same : (n : ℕ) (w u : ℕ → ℕ → ℤ) → ((from to : ℕ) → from < n → to < n → w from to ≡ u from to) → HasNoPositiveCycle n u → HasNoPositiveCycle n w
no_cycle_same n w u same none i between l h = subst (λ z. z ≤ℤ pos 0) (sym (walk_same n w u same i (between ++ i ∷ []) l (All-append (λ j. j < n) between (i ∷ []) h (All-cons (λ j. j < n) i [] l (All-nil (λ j. j < n)))))) (none i between l h)

-- the steps of the matrix over the values
abbrev pub AreValueSteps : RentCase → Matrix → Matrix → List ℕ → Type 0
AreValueSteps case values steps slice = HasEntries (length values.items) MOST_STEP (λ from to. entry values to (get_or slice from 0) -ℤ entry values from (get_or slice from 0)) steps

-- an entry of the matrix of steps is the step over the values
step_is : (case : RentCase) (values steps : Matrix) (s slice : List ℕ) → HasEntries (room_count case) MOST_KEY (λ i j. value case i (j + 1)) values → AreValueSteps case values steps slice
    → IsAssignment case s → slice ≡ map (λ r. r - 1) s → (from to : ℕ) → from < room_count case → to < room_count case → entry steps from to ≡ value_step case s from to
step_is case values steps s slice v h p e from to l m =
    let n = room_count case in
    let same = v.rows_count in
    let count = rooms_length n s p in
    let room = room_range n s from p l in
    let at : get_or slice from 0 ≡ get_or s from 0 - 1 = ap (λ xs. get_or xs from 0) e ∙ get_or-map (λ r. r - 1) s from 0 0 (omega arith) in
    let up : get_or slice from 0 + 1 ≡ get_or s from 0 = omega (arith, at, room.0) in
    let one = entry_is (length values.items) MOST_STEP (λ from to. entry values to (get_or slice from 0) -ℤ entry values from (get_or slice from 0)) steps from to h (omega arith) (omega arith) in
    let two = entry_is n MOST_KEY (λ i j. value case i (j + 1)) values to (get_or slice from 0) v m (omega (arith, up, room.1)) ∙ ap (value case to) up in
    let three = entry_is n MOST_KEY (λ i j. value case i (j + 1)) values from (get_or slice from 0) v l (omega (arith, up, room.1)) ∙ ap (value case from) up in
    omega (arith, ints, one, two, three)

-- the matrix of steps over the values has no positive cycle
pub value_steps_no_cycle : LeaveNoValueCycle → (case : RentCase) (values steps : Matrix) (plan : Plan) (s slice : List ℕ) → HasEntries (room_count case) MOST_KEY (λ i j. value case i (j + 1)) values → IsMatchedPlan (length values.items) values plan → AreValueSteps case values steps slice
    → HasGreatestWelfare case s → slice ≡ map (λ r. r - 1) s → HasNoPositiveCycle (length steps.items) (entry steps)
value_steps_no_cycle law case values steps plan s slice v d h best e =
    let n = room_count case in
    let same = v.rows_count in
    let known : IsMatched n n (entry values) (numbers plan.left.items) (numbers plan.right.items) plan.rooms.items = subst (λ m. IsMatched m m (entry values) (numbers plan.left.items) (numbers plan.right.items) plan.rooms.items) same d.matched in
    let at : (i j : ℕ) → i < n → j < n → entry values i j ≡ value case i (j + 1) = λ i j l m. entry_is n MOST_KEY (λ i j. value case i (j + 1)) values i j v l m in
    subst (λ m. HasNoPositiveCycle m (entry steps)) (sym (h.rows_count ∙ same))
    (no_cycle_same n (entry steps) (value_step case s) (step_is case values steps s slice v h best.assignment e)
    (matched_values law case s plan.rooms.items (numbers plan.left.items) (numbers plan.right.items) (record {
      permutation = known.permutation;
      bound = λ i j l m. subst (λ z. z ≤ℤ (numbers plan.left.items i +ℤ numbers plan.right.items j)) (at i j l m) (known.bound i j l m);
      top = known.top;
      tight = λ i l. known.tight i l ∙ at i (get_or plan.rooms.items i 0) l (permutation_below n plan.rooms.items i known.permutation l);
      zero = known.zero;
    }) best))

-- the walks over the matrix are those over the values
pub value_weights : (case : RentCase) (values steps : Matrix) (s slice : List ℕ) (weights : List ℤ) → HasEntries (room_count case) MOST_KEY (λ i j. value case i (j + 1)) values → AreValueSteps case values steps slice
    → IsAssignment case s → slice ≡ map (λ r. r - 1) s → AreGreatestWeights (length steps.items) (entry steps) weights → AreGreatestWeights (room_count case) (value_step case s) weights
value_weights case values steps s slice weights v h p e greatest =
    greatest_same (room_count case) (entry steps) (value_step case s) weights (step_is case values steps s slice v h p e)
    (subst (λ m. AreGreatestWeights m (entry steps) weights) (h.rows_count ∙ v.rows_count) greatest)

-- the ranks over the matrix are those over the values
pub value_ranks : (case : RentCase) (values steps : Matrix) (s slice : List ℕ) (weights : List ℤ) (ranks : List ℕ) → HasEntries (room_count case) MOST_KEY (λ i j. value case i (j + 1)) values → AreValueSteps case values steps slice
    → IsAssignment case s → slice ≡ map (λ r. r - 1) s → AreRanks (length steps.items) (entry steps) weights ranks → AreRanks (room_count case) (value_step case s) weights ranks
value_ranks case values steps s slice weights ranks v h p e given =
    ranks_same (room_count case) (entry steps) (value_step case s) weights ranks (step_is case values steps s slice v h p e)
    (subst (λ m. AreRanks m (entry steps) weights ranks) (h.rows_count ∙ v.rows_count) given)

-- the rooms counted from 0
pub slice_below : (n : ℕ) (s slice : List ℕ) → IsPermutation (range_with_len 1 n) s → slice ≡ map (λ r. r - 1) s → All (λ room. room < n) slice × (length slice ≡ n)
slice_below n s slice p e =
    let count = rooms_length n s p in
    let long : length slice ≡ n = ap length e ∙ length-map s (λ r. r - 1) ∙ count in (
      All-from_get_or (λ room. room < n) slice 0 (λ i l.
          let room = room_range n s i p (omega arith) in
          let at : get_or slice i 0 ≡ get_or s i 0 - 1 = ap (λ xs. get_or xs i 0) e ∙ get_or-map (λ r. r - 1) s i 0 0 (omega arith) in
          omega (arith, at, room.0, room.1)),
      long,
    )
