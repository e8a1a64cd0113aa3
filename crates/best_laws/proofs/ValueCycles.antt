-- Numbers by vertex that each step respects leave no cycle of positive weight, and so do assignments of greatest welfare.
use Rattle.std.proofs.Common.{◌≡◌, ℕ, ℤ, ◌+◌, ◌<◌, ◌≤◌, ◌+ℤ◌, ◌-ℤ◌, ◌≤ℤ◌, List, [], ◌∷◌, ◌++◌, get_or, arith}
use Rattle.std.specs.List.{range_with_len}
use Rattle.std.proofs.lemmas.Int.{ints}
use Rattle.std.proofs.lemmas.List.Elements.{All-head, All-tail}
use Rattle.bid_rules.specs.declared.rents.RentCase.{RentCase}
use Rattle.bid_rules.specs.Rent.{value, room_count, IsAssignment}
use Rattle.bid_rules.specs.Keys.{HasGreatestWelfare}
use Rattle.bid_rules.specs.Maximin.{value_step}
use Rattle.bid_rules.specs.Walks.{walk_weight, AreVertices, HasNoPositiveCycle}
use Rattle.split_lemmas.proofs.RoomPlaces.{room_range, members_sum}
use Rattle.split_lemmas.proofs.Totals.{total-same_range, each_same}
use Rattle.split_lemmas.proofs.SignedSums.{total-add}

-- a walk is no heavier than the difference of the numbers at its ends
potential : (n : ℕ) (w : ℕ → ℕ → ℤ) (height : ℕ → ℤ) → ((from to : ℕ) → from < n → to < n → w from to ≤ℤ (height to -ℤ height from)) → (to : ℕ) (xs : List ℕ) (v : ℕ) → to < n → v < n → AreVertices n xs
    → walk_weight w to (xs ++ v ∷ []) ≤ℤ (height to -ℤ height v)
potential n w height steps to [] v l m h = let a = steps v to m l in omega (arith, ints)
potential n w height steps to (x ∷ xs) v l m h =
    let known : x < n = All-head (λ j. j < n) x xs h in
    let rest = potential n w height steps x xs v known m (All-tail (λ j. j < n) x xs h) in
    let a = steps x to known l in
    omega (arith, ints, rest)

-- so no cycle has a positive weight
pub no_cycle : (n : ℕ) (w : ℕ → ℕ → ℤ) (height : ℕ → ℤ) → ((from to : ℕ) → from < n → to < n → w from to ≤ℤ (height to -ℤ height from)) → HasNoPositiveCycle n w
no_cycle n w height steps i between l h = let a = potential n w height steps i between i l l h in omega (arith, ints)

-- dual numbers of the values, which some assignment reaches, are reached by each assignment of greatest welfare too
pub values_no_cycle : (case : RentCase) (s t : List ℕ) (left right : ℕ → ℤ) → HasGreatestWelfare case s → IsAssignment case t
    → ((i r : ℕ) → i < room_count case → 1 ≤ r → r ≤ room_count case → value case i r ≤ℤ (left i +ℤ right r)) → ((i : ℕ) → i < room_count case → left i +ℤ right (get_or t i 0) ≡ value case i (get_or t i 0))
    → HasNoPositiveCycle (room_count case) (value_step case s)
values_no_cycle case s t left right best h bound reached =
    let n = room_count case in
    let above : (i : ℕ) → 0 ≤ i → i < 0 + n → value case i (get_or s i 0) ≤ℤ (left i +ℤ right (get_or s i 0)) = λ i a b.
    let room = room_range n s i best.assignment (omega arith) in
    bound i (get_or s i 0) (omega arith) room.0 room.1 in
    let ours = total-add left (λ i. right (get_or s i 0)) (range_with_len 0 n) in
    let theirs = total-add left (λ i. right (get_or t i 0)) (range_with_len 0 n) in
    let a = members_sum right s n best.assignment in
    let b = members_sum right t n h in
    let reach = total-same_range (λ i. left i +ℤ right (get_or t i 0)) (λ i. value case i (get_or t i 0)) 0 n (λ i l m. reached i (omega arith)) in
    let less = best.greatest t h in
    let tight : (i : ℕ) → i < n → value case i (get_or s i 0) ≡ left i +ℤ right (get_or s i 0) = λ i l.
    each_same (λ j. value case j (get_or s j 0)) (λ j. left j +ℤ right (get_or s j 0)) 0 n above (omega (arith, ints, ours, theirs, a, b, reach, less)) i (omega arith) (omega arith) in
    no_cycle n (value_step case s) left (λ from to l m.
    let room = room_range n s from best.assignment l in
    let high = bound to (get_or s from 0) m room.0 room.1 in
    let own = tight from l in
    omega (arith, ints, high, own))
