-- How great the least utility of an envy-free priced assignment can be.
use Rattle.std.proofs.Common.{◌≡◌, ℕ, ℤ, pos, ◌<◌, ◌≤◌, ◌+ℤ◌, ◌-ℤ◌, ◌*ℤ◌, ◌≤ℤ◌, List, [], ◌∷◌, length, map, fold, get_or, arith, refl, sym, ap, ◌∙◌, subst, ⊎_elim}
use Rattle.std.specs.List.{range_with_len, Contains}
use Rattle.std.specs.Int.{int_min}
use Rattle.std.proofs.lemmas.Int.{ints, fold-int_min_bounds, fold-int_min_reached}
use Rattle.std.proofs.Math.IntN.{*ℤ-zero}
use Rattle.std.proofs.lemmas.List.{get_or-map, length-map}
use Rattle.std.proofs.lemmas.List.Elements.{All-head, All-tail}
use Rattle.std.proofs.lemmas.List.FromFn.{length-range_with_len, get_or-range_with_len}
use Rattle.bid_rules.specs.declared.rents.RentCase.{RentCase}
use Rattle.bid_rules.specs.Rent.{value, room_count, sum_over_members, IsAssignment, welfare, IsPricedAssignment, utility, IsEnvyFree}
use Rattle.bid_rules.specs.Walks.{walk_weight, weight_at, AreVertices, IsAttained}
use Rattle.bid_rules.specs.Maximin.{value_step, least_in_parts}
use Rattle.best_laws.proofs.EnvyFreeWelfare.{sum_utilities, kept}
use Rattle.split_lemmas.proofs.RoomPlaces.{room_range}
use Rattle.split_lemmas.proofs.Multiples.{multiple_difference, multiple_le, multiple_sum}
use Rattle.split_lemmas.proofs.Totals.{total-times, total-const, total-le}
use Rattle.split_lemmas.proofs.SignedSums.{total-add}

-- the least of the first n numbers is not above any
pub least_low : (f : ℕ → ℤ) (n i : ℕ) → i < n → fold int_min (f 0) (map f (range_with_len 0 n)) ≤ℤ f i
least_low f n i l =
    let numbers = map f (range_with_len 0 n) in
    let count : length numbers ≡ n = length-map (range_with_len 0 n) f ∙ length-range_with_len 0 n in
    let within = length-range_with_len 0 n in
    let bounds = fold-int_min_bounds (f 0) numbers (fold int_min (f 0) numbers) refl in
    let at : get_or numbers i (pos 0) ≡ f i = get_or-map f (range_with_len 0 n) i 0 (pos 0) (omega arith) ∙ ap f (let e = get_or-range_with_len 0 n i 0 l in omega arith) in
    subst (λ z. fold int_min (f 0) numbers ≤ℤ z) at (bounds.1 i (pos 0) (omega arith))

-- and is one of them
pub least_reached : (f : ℕ → ℤ) (n : ℕ) → 1 ≤ n → (i : ℕ) × (i < n) × (fold int_min (f 0) (map f (range_with_len 0 n)) ≡ f i)
least_reached f n some =
    let numbers = map f (range_with_len 0 n) in
    let count : length numbers ≡ n = length-map (range_with_len 0 n) f ∙ length-range_with_len 0 n in
    let within = length-range_with_len 0 n in
    let r = fold int_min (f 0) numbers in
    ⊎_elim
    (λ (e : r ≡ f 0). (0, omega arith, e))
    (λ (there : Contains numbers r).
    let i = there.0 in
    let inside : i < n = omega (arith, there.1) in
    let at : get_or numbers i r ≡ f i = get_or-map f (range_with_len 0 n) i 0 r (omega arith) ∙ ap f (let e = get_or-range_with_len 0 n i 0 inside in omega arith) in
    (i, inside, sym there.2 ∙ at))
    (fold-int_min_reached (f 0) numbers r refl)

-- one step: a utility is at least another one and the step, k times
pub one_step_up : (case : RentCase) (k : ℕ) (t : List ℕ) (q : List ℤ) (s : List ℕ) → IsPricedAssignment case k t q → IsEnvyFree case k t q → IsAssignment case s → welfare case t ≤ℤ welfare case s
    → (from to : ℕ) → from < room_count case → to < room_count case → (utility case k t q from +ℤ pos k *ℤ value_step case s from to) ≤ℤ utility case k t q to
one_step_up case k t q s p free h best from to known l =
    let room = room_range (room_count case) s from h known in
    let envy = free to (get_or s from 0) l room.0 room.1 in
    let stays = kept case k t q s p free h best from known in
    let two = multiple_difference k (value case to (get_or s from 0)) (value case from (get_or s from 0)) in
    omega (arith, ints, envy, stays, two)

-- a utility is at least the least one and the walk, k times
pub along : (case : RentCase) (k : ℕ) (t : List ℕ) (q : List ℤ) (s : List ℕ) (least : ℤ) → IsPricedAssignment case k t q → IsEnvyFree case k t q → IsAssignment case s → welfare case t ≤ℤ welfare case s
    → ((i : ℕ) → i < room_count case → least ≤ℤ utility case k t q i) → (to : ℕ) (before : List ℕ) → to < room_count case → AreVertices (room_count case) before
    → (least +ℤ pos k *ℤ walk_weight (value_step case s) to before) ≤ℤ utility case k t q to
along case k t q s least p free h best low to [] l v = let a = low to l in let none = *ℤ-zero (pos k) in omega (arith, ints, a, none)
along case k t q s least p free h best low to (from ∷ before) l v =
    let n = room_count case in
    let known : from < n = All-head (λ j. j < n) from before v in
    let rest = along case k t q s least p free h best low from before known (All-tail (λ j. j < n) from before v) in
    let up = one_step_up case k t q s p free h best from to known l in
    let one = multiple_sum k (walk_weight (value_step case s) from before) (value_step case s from to) in
    omega (arith, ints, rest, up, one)

-- so the sum over the members bounds the least utility
pub upper : (case : RentCase) (k : ℕ) (t : List ℕ) (q : List ℤ) (s : List ℕ) (walks : List ℤ) (least : ℤ) → IsPricedAssignment case k t q → IsEnvyFree case k t q → IsAssignment case s → welfare case t ≤ℤ welfare case s
    → ((i : ℕ) → i < room_count case → IsAttained (room_count case) (value_step case s) i (weight_at walks i)) → ((i : ℕ) → i < room_count case → least ≤ℤ utility case k t q i)
    → (pos (room_count case) *ℤ least) ≤ℤ (pos k *ℤ least_in_parts case s walks)
upper case k t q s walks least p free h best attained low =
    let n = room_count case in
    let each = total-le (λ i. least +ℤ pos k *ℤ weight_at walks i) (utility case k t q) 0 n (λ i a b.
    let inside : i < n = omega arith in
    let there = attained i inside in
    let reach = along case k t q s least p free h best low i there.0 inside there.1 in
    subst (λ z. (least +ℤ pos k *ℤ z) ≤ℤ utility case k t q i) there.2 reach) in
    let split = total-add (λ i. least) (λ i. pos k *ℤ weight_at walks i) (range_with_len 0 n) in
    let const = total-const least 0 n in
    let times = total-times k (weight_at walks) (range_with_len 0 n) in
    let sum = sum_utilities case k t q t p p.assignment in
    let more = multiple_le k (welfare case t) (welfare case s) best in
    let one = multiple_difference k (welfare case s -ℤ pos case.facts.rent) (sum_over_members case (weight_at walks)) in
    let two = multiple_difference k (welfare case s) (pos case.facts.rent) in
    omega (arith, ints, each, split, const, times, sum, more, one, two)
