-- The rooms of an assignment by place, and sums over them.
use Rattle.std.proofs.Common.{◌≡◌, ℕ, ℤ, ◌-◌, ◌<◌, ◌≤◌, List, length, All, get_or, arith, sym, ap, ◌∙◌}
use Rattle.std.specs.List.{range_with_len}
use Rattle.std.specs.List.Sorted.{IsPermutation}
use Rattle.std.proofs.lemmas.List.{get_or_default}
use Rattle.std.proofs.lemmas.List.Elements.{All-from_get_or}
use Rattle.std.proofs.lemmas.List.FromFn.{length-range_with_len, get_or-range_with_len}
use Rattle.std.proofs.lemmas.List.Sorted.{length_permutation, All-permutation, Contains-permutation}
use Rattle.bid_rules.specs.Sums.{total}
use Rattle.split_lemmas.proofs.Totals.{total-same_range, total-places}
use Rattle.split_lemmas.proofs.SignedSums.{total-permutation}

-- there are as many rooms as members
pub rooms_length : (n : ℕ) (s : List ℕ) → IsPermutation (range_with_len 1 n) s → length s ≡ n
rooms_length n s h = length_permutation (range_with_len 1 n) s h ∙ length-range_with_len 1 n

-- each member's room is one of the rooms
pub room_range : (n : ℕ) (s : List ℕ) (i : ℕ) → IsPermutation (range_with_len 1 n) s → i < n → (1 ≤ get_or s i 0) × (get_or s i 0 ≤ n)
room_range n s i h l =
    let count = rooms_length n s h in
    let all : All (λ x. (1 ≤ x) × (x ≤ n)) (range_with_len 1 n) = All-from_get_or (λ x. (1 ≤ x) × (x ≤ n)) (range_with_len 1 n) 0 (λ k m. let r = length-range_with_len 1 n in let e = get_or-range_with_len 1 n k 0 (omega arith) in (omega arith, omega arith)) in
    All-permutation (λ x. (1 ≤ x) × (x ≤ n)) (range_with_len 1 n) s h all i 0 (omega arith)

-- some member has each room
pub room_place : (n : ℕ) (s : List ℕ) (r : ℕ) → IsPermutation (range_with_len 1 n) s → 1 ≤ r → r ≤ n → (i : ℕ) × (i < n) × (get_or s i 0 ≡ r)
room_place n s r h a b =
    let count = rooms_length n s h in
    let e : get_or (range_with_len 1 n) (r - 1) r ≡ r = let g = get_or-range_with_len 1 n (r - 1) r (omega arith) in omega arith in
    let all = length-range_with_len 1 n in
    let there = Contains-permutation (range_with_len 1 n) s r h (r - 1, omega arith, e) in
    (there.0, omega (arith, there.1), get_or_default s there.0 0 r there.1 ∙ there.2)

-- the sum over the members' own rooms is the sum over the rooms
pub members_sum : (f : ℕ → ℤ) (s : List ℕ) (n : ℕ) → IsPermutation (range_with_len 1 n) s → total (λ i. f (get_or s i 0)) (range_with_len 0 n) ≡ total f (range_with_len 1 n)
members_sum f s n h =
    let by_places = total-places f 0 s 0 in
    let same = total-same_range (λ i. f (get_or s i 0)) (λ i. f (get_or s (i - 0) 0)) 0 n (λ i l m. let e : i ≡ i - 0 = omega arith in ap (λ k. f (get_or s k 0)) e) in
    same ∙ ap (λ k. total (λ i. f (get_or s (i - 0) 0)) (range_with_len 0 k)) (sym (rooms_length n s h)) ∙ by_places ∙ total-permutation f (range_with_len 1 n) s h
