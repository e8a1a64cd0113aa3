-- Dual numbers show the greatest sum of keys.
use Rattle.std.proofs.Common.{◌≡◌, ℕ, ℤ, pos, ◌+◌, ◌-◌, ◌+ℤ◌, ◌≤ℤ◌, List, get_or, arith, sym, ap, ◌∙◌}
use Rattle.std.specs.List.{range_with_len}
use Rattle.std.proofs.lemmas.Int.{ints}
use Rattle.std.proofs.lemmas.List.{ext_get_or}
use Rattle.bid_rules.specs.declared.rents.RentCase.{RentCase}
use Rattle.bid_rules.specs.Rent.{IsAssignment, price_of, room_count}
use Rattle.bid_rules.specs.Walks.{weight_at}
use Rattle.bid_rules.specs.Keys.{key, key_sum, AreDualNumbers, HasGreatestKeySum}
use Rattle.split_lemmas.proofs.Totals.{total-le, total-same_range}
use Rattle.split_lemmas.proofs.SignedSums.{total-add}
use Rattle.split_lemmas.proofs.RoomPlaces.{room_place, room_range, members_sum}

-- no assignment has a greater sum of keys than one with dual numbers
duals_bound : (case : RentCase) (s t : List ℕ) (left right : List ℤ) → IsAssignment case s → IsAssignment case t → AreDualNumbers case s left right → key_sum case t ≤ℤ key_sum case s
duals_bound case s t left right h g d =
    let n = room_count case in
    let at : ℕ → ℤ = weight_at left in
    let of : ℕ → ℤ = price_of right in
    let each = total-le (λ i. key case i (get_or t i 0)) (λ i. at i +ℤ of (get_or t i 0)) 0 n (λ i l m. let room = room_range n t i g (omega arith) in d.bound i (get_or t i 0) (omega arith) room.0 room.1) in
    let theirs = total-add at (λ i. of (get_or t i 0)) (range_with_len 0 n) in
    let ours = total-add at (λ i. of (get_or s i 0)) (range_with_len 0 n) in
    let reach = total-same_range (λ i. at i +ℤ of (get_or s i 0)) (λ i. key case i (get_or s i 0)) 0 n (λ i l m. d.reached i (omega arith)) in
    let a = members_sum of t n g in
    let b = members_sum of s n h in
    omega (arith, ints, each, theirs, ours, reach, a, b)

-- an assignment with dual numbers has the greatest sum of keys
pub duals_show : (case : RentCase) (s : List ℕ) (left right : List ℤ) → IsAssignment case s → AreDualNumbers case s left right → HasGreatestKeySum case s
duals_show case s left right h d = record {
  assignment = h;
  greatest = λ t g. duals_bound case s t left right h g d;
}

-- with the same numbers by member, the numbers by room are one list
pub one_right : (case : RentCase) (s : List ℕ) (left right other : List ℤ) → IsAssignment case s → AreDualNumbers case s left right → AreDualNumbers case s left other → other ≡ right
one_right case s left right other h d e =
    let n = room_count case in
    let long = e.rights in
    ext_get_or (pos 0) other right (e.rights ∙ sym d.rights) (λ place m.
    let there = room_place n s (place + 1) h (omega arith) (omega (arith, m, long)) in
    let back : place + 1 - 1 ≡ place = omega arith in
    let at : (xs : List ℤ) → price_of xs (get_or s there.0 0) ≡ get_or xs place (pos 0) = λ xs. ap (price_of xs) there.2 ∙ ap (λ k. get_or xs k (pos 0)) back in
    let ours = d.reached there.0 there.1 in
    let theirs = e.reached there.0 there.1 in
    omega (arith, ints, ours, theirs, at right, at other))
