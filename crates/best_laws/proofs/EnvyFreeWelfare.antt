-- Envy-free prices: their rooms have the greatest welfare, and they stay envy-free with every other assignment that has it.
use Rattle.std.proofs.Common.{◌≡◌, ℕ, ℤ, pos, ◌<◌, ◌-ℤ◌, ◌*ℤ◌, ◌≤ℤ◌, List, get_or, arith, sym, ◌∙◌}
use Rattle.std.specs.List.{range_with_len}
use Rattle.std.proofs.lemmas.Int.{ints}
use Rattle.std.proofs.Math.IntN.{pos-*ℤ-pos}
use Rattle.bid_rules.specs.declared.rents.RentCase.{RentCase}
use Rattle.bid_rules.specs.Rent.{value, room_count, sum_over_members, IsAssignment, welfare, IsPricedAssignment, price_of, utility_with, utility, IsEnvyFree}
use Rattle.split_lemmas.proofs.RoomPlaces.{room_range, members_sum}
use Rattle.split_lemmas.proofs.PriceLists.{prices_total}
use Rattle.split_lemmas.proofs.Multiples.{multiple_cancel, multiple_le}
use Rattle.split_lemmas.proofs.Totals.{total-sub, total-times, total-le, each_same}

-- the utilities that the prices give with any assignment sum to its welfare less the rent
pub sum_utilities : (case : RentCase) (k : ℕ) (t : List ℕ) (q : List ℤ) (s : List ℕ) → IsPricedAssignment case k t q → IsAssignment case s
    → sum_over_members case (λ i. utility_with case k q i (get_or s i 0)) ≡ pos k *ℤ welfare case s -ℤ pos k *ℤ pos case.facts.rent
sum_utilities case k t q s p h =
    let n = room_count case in
    let parts = total-sub (λ i. pos k *ℤ value case i (get_or s i 0)) (λ i. price_of q (get_or s i 0)) (range_with_len 0 n) in
    let values = total-times k (λ i. value case i (get_or s i 0)) (range_with_len 0 n) in
    let prices = members_sum (price_of q) s n h ∙ prices_total q n p.each ∙ p.whole ∙ sym (pos-*ℤ-pos k case.facts.rent) in
    omega (arith, ints, parts, values, prices)

-- with an assignment of no less welfare each member has the same utility
pub kept : (case : RentCase) (k : ℕ) (t : List ℕ) (q : List ℤ) (s : List ℕ) → IsPricedAssignment case k t q → IsEnvyFree case k t q → IsAssignment case s → welfare case t ≤ℤ welfare case s
    → (i : ℕ) → i < room_count case → utility case k s q i ≡ utility case k t q i
kept case k t q s p free h best i l =
    let n = room_count case in
    let ours = sum_utilities case k t q s p h in
    let theirs = sum_utilities case k t q t p p.assignment in
    let more = multiple_le k (welfare case t) (welfare case s) best in
    each_same (utility case k s q) (utility case k t q) 0 n
    (λ j a b. let room = room_range n s j h (omega arith) in free j (get_or s j 0) (omega arith) room.0 room.1)
    (omega (arith, ints, ours, theirs, more)) i (omega arith) (omega arith)

-- and nobody envies
pub kept_free : (case : RentCase) (k : ℕ) (t : List ℕ) (q : List ℤ) (s : List ℕ) → IsPricedAssignment case k t q → IsEnvyFree case k t q → IsAssignment case s → welfare case t ≤ℤ welfare case s → IsEnvyFree case k s q
kept_free case k t q s p free h best i r l a b =
    let here = free i r l a b in
    let same = kept case k t q s p free h best i l in
    omega (arith, ints, here, same)

-- an envy-free assignment has the greatest welfare
pub free_is_best : (case : RentCase) (k : ℕ) (t : List ℕ) (q : List ℤ) (s : List ℕ) → IsPricedAssignment case k t q → IsEnvyFree case k t q → IsAssignment case s → welfare case s ≤ℤ welfare case t
free_is_best case k t q s p free h =
    let n = room_count case in
    let ours = sum_utilities case k t q s p h in
    let theirs = sum_utilities case k t q t p p.assignment in
    let less = total-le (utility case k s q) (utility case k t q) 0 n
    (λ j a b. let room = room_range n s j h (omega arith) in free j (get_or s j 0) (omega arith) room.0 room.1) in
    multiple_cancel k (welfare case s) (welfare case t) p.parts (omega (arith, ints, ours, theirs, less))
