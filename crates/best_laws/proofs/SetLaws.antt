-- Sets of riders and their numbers.
use Rattle.std.proofs.Common.{◌≡◌, ◌≢◌, ℕ, zero, suc, ◌+◌, ◌-◌, ◌/◌, ◌^◌, ◌<◌, ◌≤◌, ◌==◌, ◌↔◌, List, [], ◌∷◌, length, get_or, All, AllPairs, Contains, Bool, true, false, cond, arith, refl, sym, ap, ◌∙◌, subst, ⊎_elim}
use Rattle.std.specs.Int.{bit_at}
use Rattle.std.specs.List.{filter, range_with_len}
use Rattle.std.specs.List.Sorted.{IsPermutation, IsStrictlyIncreasing}
use Rattle.std.proofs.lemmas.Bool.{cases_lt, false≢true}
use Rattle.std.proofs.lemmas.Bool.Decides.{nat_tests}
use Rattle.std.proofs.lemmas.List.Elements.{All-nil, All-cons, All-head, All-tail, All-weaker, All-contains}
use Rattle.std.proofs.lemmas.List.FromFn.{length-range_with_len, get_or-range_with_len}
use Rattle.std.proofs.lemmas.List.Kept.{AllPairs-from_increasing, IsStrictlyIncreasing-filter}
use Rattle.std.proofs.lemmas.List.Sums.{get_or-le-sum_by}
use Rattle.std.proofs.lemmas.Nat.{shr_below}
use Rattle.bid_rules.specs.Coalitions.{has_rider, riders_in, set_number}
use Rattle.split_lemmas.proofs.DistinctOrders.{pairs_head, pairs_tail}
use Rattle.best_laws.proofs.SetNumbers.{RisesFrom, riders_from, riders_in-are, riders_of_number, riders_within, number_of_riders, number_within, permuted, self_small}

-- a run of numbers rises
range_increasing : (a n : ℕ) → IsStrictlyIncreasing (range_with_len a n)
range_increasing a n k l =
    let long = length-range_with_len a n in
    omega (arith, get_or-range_with_len a n k 0 (omega (arith, l, long)), get_or-range_with_len a n (k + 1) 0 (omega (arith, l, long)))

-- the riders of a set rise
pub riders_in-rising : (set : ℕ) → IsStrictlyIncreasing (riders_in set)
unfolding riders_in
riders_in-rising set = IsStrictlyIncreasing-filter (has_rider set) (range_with_len 1 set) (range_increasing 1 set)

-- what a filter keeps passes its test
kept_pass : (P : ℕ → Type 0) (p : ℕ → Bool) (xs : List ℕ) → All P xs → All (λ x. P x × (p x ≡ true)) (filter p xs)
kept_pass P p [] h = All-nil (λ x. P x × (p x ≡ true))
kept_pass P p (x ∷ xs) h = go (p x) refl (kept_pass P p xs (All-tail P x xs h))
  where
    go : (t : Bool) → p x ≡ t → All (λ x. P x × (p x ≡ true)) (filter p xs) → All (λ x. P x × (p x ≡ true)) (cond t (x ∷ filter p xs) (filter p xs))
    go true e r = All-cons (λ x. P x × (p x ≡ true)) x (filter p xs) (All-head P x xs h, e) r
    go false e r = r

-- and what passes is kept
passing_kept : (p : ℕ → Bool) (xs : List ℕ) (x k : ℕ) → k < length xs → get_or xs k x ≡ x → p x ≡ true → Contains (filter p xs) x
passing_kept p [] x k l e t = absurd (omega (arith, l))
passing_kept p (y ∷ xs) x zero l e t = go (p y) (ap p e ∙ t)
  where
    go : (b : Bool) → b ≡ true → Contains (cond b (y ∷ filter p xs) (filter p xs)) x
    go true h = (0, omega arith, e)
    go false h = absurd (false≢true h)
passing_kept p (y ∷ xs) x (suc k) l e t = go (p y) (passing_kept p xs x k (omega (arith, l)) e t)
  where
    go : (b : Bool) → Contains (filter p xs) x → Contains (cond b (y ∷ filter p xs) (filter p xs)) x
    go true c = (suc c.0, omega (arith, c.1), c.2)
    go false c = c

-- a bit that is set is within the number
bit_within : (set k : ℕ) → bit_at set k ≡ 1 → k < set
bit_within set k h = ⊎_elim
    (λ low. absurd (let same : k ≡ 0 + k = omega arith in let none : set / 2 ^ k < 1 = shr_below set 0 k (subst (λ e. set < 2 ^ e) same low) in omega (arith, h, none)))
    (λ high. omega (arith, high, self_small k))
    (cases_lt set (2 ^ k))

-- the riders of a set are those whose bit is set
pub riders_in-bits : (set rider : ℕ) → Contains (riders_in set) rider ↔ (1 ≤ rider) × (bit_at set (rider - 1) ≡ 1)
unfolding riders_in
riders_in-bits set rider = (
  λ c.
      let all : All (λ r. 1 ≤ r) (range_with_len 1 set) = λ k d l. omega (arith, get_or-range_with_len 1 set k d (subst (λ n. k < n) (length-range_with_len 1 set) l)) in
      let here = All-contains (λ r. (1 ≤ r) × (has_rider set r ≡ true)) (riders_in set) rider (kept_pass (λ r. 1 ≤ r) (has_rider set) (range_with_len 1 set) all) c in
      (here.0, set_bit (bit_at set (rider - 1)) here.1),
  λ h.
      let within : rider - 1 < set = bit_within set (rider - 1) h.1 in
      passing_kept (has_rider set) (range_with_len 1 set) rider (rider - 1) (omega (arith, length-range_with_len 1 set, within))
      (let at = get_or-range_with_len 1 set (rider - 1) rider within in omega (arith, at, h.0)) (ap (λ b. b == 1) h.1),
)
  where
    set_bit : (b : ℕ) → (b == 1) ≡ true → b ≡ 1
    set_bit b e = grind (arith, nat_tests)

-- the riders of a number have that number
pub riders_in-number : (set : ℕ) → set_number (riders_in set) ≡ set
riders_in-number set = ap set_number (riders_in-are set set (self_small set)) ∙ number_of_riders set 1 set (self_small set)

-- each is below the next, so they rise from the first
rises_from : (a : ℕ) (xs : List ℕ) → AllPairs (λ x y. x < y) xs → All (λ r. a ≤ r) xs → RisesFrom a xs
rises_from a [] pairs low = tt
rises_from a (x ∷ xs) pairs low = (
  All-head (λ r. a ≤ r) x xs low,
  rises_from (x + 1) xs (pairs_tail (λ x y. x < y) x xs pairs) (All-weaker (λ y. x < y) (λ y. x + 1 ≤ y) (λ y h. omega (arith, h)) xs (pairs_head (λ x y. x < y) x xs pairs)),
)

-- rising riders are those of their number
pub riders_in-of_number : (xs : List ℕ) → IsStrictlyIncreasing xs → All (λ r. 1 ≤ r) xs → riders_in (set_number xs) ≡ xs
riders_in-of_number xs rising low =
    let s = set_number xs in
    riders_in-are s s (self_small s) ∙ riders_of_number s 1 xs (rises_from 1 xs (AllPairs-from_increasing xs rising) low) (self_small s)

-- rising riders differ
rising_differ : (xs : List ℕ) → IsStrictlyIncreasing xs → AllPairs ◌≢◌ xs
rising_differ xs rising i j d l m e = omega (arith, AllPairs-from_increasing xs rising i j d l m, e)

-- the riders of a number below 2^n are among the first n
pub riders_in-within : (n set : ℕ) → set < 2 ^ n ↔ All (λ r. (1 ≤ r) × (r ≤ n)) (riders_in set)
riders_in-within n set = (
  λ small. subst (λ xs. All (λ r. (1 ≤ r) × (r ≤ n)) xs) (sym (riders_in-are n set small))
      (All-weaker (λ r. (1 ≤ r) × (r < 1 + n)) (λ r. (1 ≤ r) × (r ≤ n)) (λ r h. (h.0, omega (arith, h.1))) (riders_from n 1 set) (riders_within n 1 set)),
  λ within. subst (λ s. s < 2 ^ n) (riders_in-number set) (number_within n (riders_in set) (rising_differ (riders_in set) (riders_in-rising set)) within),
)

-- riders in any order are those of the set of their number
pub riders_in-any_order : (xs : List ℕ) → AllPairs ◌≢◌ xs → All (λ r. 1 ≤ r) xs → IsPermutation xs (riders_in (set_number xs))
riders_in-any_order xs differ low =
    let s = set_number xs in
    let within : All (λ r. (1 ≤ r) × (r ≤ s)) xs = λ k d l.
    let r = get_or xs k d in
    let one : 1 ≤ r = low k d l in
    (one, omega (arith, one, self_small (r - 1), get_or-le-sum_by (λ r. 2 ^ (r - 1)) xs k d l)) in
    subst (λ ys. IsPermutation xs ys) (sym (riders_in-are s s (self_small s))) (permuted s xs differ within)

-- a set that is not empty has a rider
pub some_riders : (set : ℕ) → (set ≡ 0 → ⊥) → 0 < length (riders_in set)
some_riders set some = go (riders_in set) (riders_in-number set)
  where
    go : (xs : List ℕ) → set_number xs ≡ set → 0 < length xs
    go [] e = absurd (some (sym e))
    go (x ∷ xs) e = omega arith
