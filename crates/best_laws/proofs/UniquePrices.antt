-- An assignment has one list of best prices: of two, the higher price of each room, less what is then too much, would leave everyone more.
use Rattle.std.proofs.Common.{◌≡◌, ℕ, ℤ, pos, suc, zero, ◌+◌, ◌-◌, ◌*◌, ◌<◌, ◌≤◌, ◌+ℤ◌, ◌-ℤ◌, ◌*ℤ◌, ◌≤ℤ◌, ◌<ℤ◌, List, length, map, get_or, arith, refl, sym, ap, ◌∙◌, inl, inr, ◌⊎◌, ⊎_elim}
use Rattle.std.specs.List.{range_with_len}
use Rattle.std.proofs.lemmas.Int.{ints, by_lt_z}
use Rattle.std.proofs.Math.IntN.{pos-*ℤ-pos}
use Rattle.std.proofs.lemmas.List.{get_or-map, length-map}
use Rattle.std.proofs.lemmas.List.FromFn.{length-range_with_len, get_or-range_with_len}
use Rattle.bid_rules.specs.declared.rents.RentCase.{RentCase}
use Rattle.bid_rules.specs.Rent.{value, room_count, IsPricedAssignment, price_of, utility_with, utility, IsEnvyFree, least_utility}
use Rattle.bid_rules.specs.Sums.{total}
use Rattle.split_lemmas.proofs.PriceLists.{prices_total}
use Rattle.best_laws.proofs.LeastUtilities.{least_reached}
use Rattle.split_lemmas.proofs.RoomPlaces.{room_range}
use Rattle.split_lemmas.proofs.Multiples.{multiple_difference, multiple_le, multiple_multiple}
use Rattle.split_lemmas.proofs.Totals.{total-sub, total-times, total-const, total-same_range, each_same}

-- the greater of two numbers
record IsGreater (a b c : ℤ) : Type 0 where
  first : a ≤ℤ c
  second : b ≤ℤ c
  one : (c ≡ a) ⊎ (c ≡ b)

-- of two numbers one is the greater
greater_of : (a b : ℤ) → (c : ℤ) × IsGreater a b c
greater_of a b = by_lt_z a b
    (λ (x : a <ℤ b). (b, record { first = omega (arith, ints, x); second = omega (arith, ints); one = inr refl }))
    (λ (x : b ≤ℤ a). (a, record { first = omega (arith, ints); second = x; one = inl refl }))

-- prices by a function of the room
prices_by : (ℕ → ℤ) → ℕ → List ℤ
prices_by f n = map f (range_with_len 1 n)

-- there is a price for each room
prices_count : (f : ℕ → ℤ) (n : ℕ) → length (prices_by f n) ≡ n
unfolding prices_by
prices_count f n = length-map (range_with_len 1 n) f ∙ length-range_with_len 1 n

-- the price of a room is that of the function
price_by : (f : ℕ → ℤ) (n r : ℕ) → 1 ≤ r → r ≤ n → price_of (prices_by f n) r ≡ f r
unfolding prices_by
price_by f n r a b =
    let count = length-range_with_len 1 n in
    get_or-map f (range_with_len 1 n) (r - 1) 0 (pos 0) (omega arith) ∙ ap f (let e = get_or-range_with_len 1 n (r - 1) 0 (omega arith) in omega arith)

-- the prices sum to the sum of the function
total_by : (f : ℕ → ℤ) (n : ℕ) → total (λ p. p) (prices_by f n) ≡ total f (range_with_len 1 n)
total_by f n = sym (prices_total (prices_by f n) n (prices_count f n)) ∙ total-same_range (price_of (prices_by f n)) f 1 n (λ r a b. price_by f n r a (omega arith))

-- two lists of envy-free prices of one assignment, in the same parts, that leave everyone at least z; no prices leave everyone more
pub record AreRivals (case : RentCase) (m : ℕ) (s : List ℕ) (p q : List ℤ) (z : ℤ) : Type 0 where
  pub priced : IsPricedAssignment case m s p
  pub free : IsEnvyFree case m s p
  pub low : (i : ℕ) → i < room_count case → z ≤ℤ utility case m s p i
  pub other_priced : IsPricedAssignment case m s q
  pub other_free : IsEnvyFree case m s q
  pub other_low : (i : ℕ) → i < room_count case → z ≤ℤ utility case m s q i
  pub most : (prices : List ℤ) → IsPricedAssignment case (room_count case * m) s prices → IsEnvyFree case (room_count case * m) s prices
      → least_utility case (room_count case * m) s prices ≤ℤ (pos (room_count case) *ℤ z)

-- the higher price of a room
higher : List ℤ → List ℤ → ℕ → ℤ
higher p q r = (greater_of (price_of p r) (price_of q r)).0

-- the higher price is the greater of the two
is_higher : (p q : List ℤ) (r : ℕ) → IsGreater (price_of p r) (price_of q r) (higher p q r)
unfolding higher
is_higher p q r = (greater_of (price_of p r) (price_of q r)).1

-- by how much the higher prices exceed the rent
excess : RentCase → ℕ → List ℤ → List ℤ → ℤ
excess case m p q = total (higher p q) (range_with_len 1 (room_count case)) -ℤ pos (m * case.facts.rent)

-- the excess, opened
excess_is : (case : RentCase) (m : ℕ) (p q : List ℤ) → excess case m p q ≡ total (higher p q) (range_with_len 1 (room_count case)) -ℤ pos (m * case.facts.rent)
unfolding excess
excess_is case m p q = refl

-- the higher prices, lowered alike until they sum to the rent, in n times as many parts
lowered : RentCase → ℕ → List ℤ → List ℤ → ℕ → ℤ
lowered case m p q r = pos (room_count case) *ℤ higher p q r -ℤ excess case m p q

-- the lowered price, opened
lowered_is : (case : RentCase) (m : ℕ) (p q : List ℤ) (r : ℕ) → lowered case m p q r ≡ pos (room_count case) *ℤ higher p q r -ℤ excess case m p q
unfolding lowered
lowered_is case m p q r = refl

-- what a member would have at the higher price of a room
with_higher : (case : RentCase) (m : ℕ) (p q : List ℤ) (i r : ℕ) → 1 ≤ r → r ≤ room_count case
    → utility_with case (room_count case * m) (prices_by (lowered case m p q) (room_count case)) i r ≡ pos (room_count case) *ℤ (pos m *ℤ value case i r -ℤ higher p q r) +ℤ excess case m p q
with_higher case m p q i r a b =
    let n = room_count case in
    let price = price_by (lowered case m p q) n r a b ∙ lowered_is case m p q r in
    let worth = multiple_multiple n m (value case i r) in
    let split = multiple_difference n (pos m *ℤ value case i r) (higher p q r) in
    omega (arith, ints, price, worth, split)

-- the lowered prices sum to the rent
lowered_priced : (case : RentCase) (m : ℕ) (s : List ℕ) (p q : List ℤ) (z : ℤ) → 1 ≤ room_count case → AreRivals case m s p q z
    → IsPricedAssignment case (room_count case * m) s (prices_by (lowered case m p q) (room_count case))
lowered_priced case m s p q z some rivals =
    let n = room_count case in
    let parts = rivals.priced.parts in
    record {
      parts = grind (arith, some, parts);
      assignment = rivals.priced.assignment;
      each = prices_count (lowered case m p q) n;
      whole =
          let by = total_by (lowered case m p q) n in
          let terms = total-same_range (lowered case m p q) (λ r. pos n *ℤ higher p q r -ℤ excess case m p q) 1 n (λ r a b. lowered_is case m p q r) in
          let split = total-sub (λ r. pos n *ℤ higher p q r) (λ r. excess case m p q) (range_with_len 1 n) in
          let times = total-times n (higher p q) (range_with_len 1 n) in
          let const = total-const (excess case m p q) 1 n in
          let less = multiple_difference n (total (higher p q) (range_with_len 1 n)) (pos (m * case.facts.rent)) in
          let same = ap (λ y. pos n *ℤ y) (excess_is case m p q) in
          let rent : pos n *ℤ pos (m * case.facts.rent) ≡ pos (n * m * case.facts.rent) = pos-*ℤ-pos n (m * case.facts.rent) ∙ ap pos (omega arith) in
          omega (arith, ints, by, terms, split, times, const, less, same, rent);
    }

-- nobody envies at the higher prices
higher_free : (case : RentCase) (m : ℕ) (s : List ℕ) (p q : List ℤ) (z : ℤ) → AreRivals case m s p q z → (i r : ℕ) → i < room_count case → 1 ≤ r → r ≤ room_count case
    → (pos m *ℤ value case i r -ℤ higher p q r) ≤ℤ (pos m *ℤ value case i (get_or s i 0) -ℤ higher p q (get_or s i 0))
higher_free case m s p q z rivals i r l a b =
    let there = is_higher p q r in
    let own = is_higher p q (get_or s i 0) in
    let first = there.first in
    let second = there.second in
    ⊎_elim
    (λ (e : higher p q (get_or s i 0) ≡ price_of p (get_or s i 0)). let envy = rivals.free i r l a b in omega (arith, ints, first, e, envy))
    (λ (e : higher p q (get_or s i 0) ≡ price_of q (get_or s i 0)). let envy = rivals.other_free i r l a b in omega (arith, ints, second, e, envy))
    own.one

-- nobody envies at the lowered prices
lowered_free : (case : RentCase) (m : ℕ) (s : List ℕ) (p q : List ℤ) (z : ℤ) → AreRivals case m s p q z → IsEnvyFree case (room_count case * m) s (prices_by (lowered case m p q) (room_count case))
lowered_free case m s p q z rivals i r l a b =
    let n = room_count case in
    let own = room_range n s i rivals.priced.assignment l in
    let there = with_higher case m p q i r a b in
    let here = with_higher case m p q i (get_or s i 0) own.0 own.1 in
    let more = multiple_le n (pos m *ℤ value case i r -ℤ higher p q r) (pos m *ℤ value case i (get_or s i 0) -ℤ higher p q (get_or s i 0)) (higher_free case m s p q z rivals i r l a b) in
    omega (arith, ints, there, here, more)

-- the excess would be everyone's gain, so there is none
no_excess : (case : RentCase) (m : ℕ) (s : List ℕ) (p q : List ℤ) (z : ℤ) → 1 ≤ room_count case → AreRivals case m s p q z → excess case m p q ≤ℤ pos 0
no_excess case m s p q z some rivals =
    let n = room_count case in
    let new = prices_by (lowered case m p q) n in
    let most = rivals.most new (lowered_priced case m s p q z some rivals) (lowered_free case m s p q z rivals) in
    let reached = least_reached (utility case (n * m) s new) n some in
    let i = reached.0 in
    let room = room_range n s i rivals.priced.assignment reached.1 in
    let here = with_higher case m p q i (get_or s i 0) room.0 room.1 in
    let own = is_higher p q (get_or s i 0) in
    let low : z ≤ℤ (pos m *ℤ value case i (get_or s i 0) -ℤ higher p q (get_or s i 0)) = ⊎_elim
    (λ (e : higher p q (get_or s i 0) ≡ price_of p (get_or s i 0)). let a = rivals.low i reached.1 in omega (arith, ints, a, e))
    (λ (e : higher p q (get_or s i 0) ≡ price_of q (get_or s i 0)). let a = rivals.other_low i reached.1 in omega (arith, ints, a, e))
    own.one in
    let more = multiple_le n z (pos m *ℤ value case i (get_or s i 0) -ℤ higher p q (get_or s i 0)) low in
    let is = reached.2 in
    omega (arith, ints, most, is, here, more)

-- so the two lists are one
pub rivals_same : (case : RentCase) (m : ℕ) (s : List ℕ) (p q : List ℤ) (z : ℤ) → AreRivals case m s p q z → (r : ℕ) → 1 ≤ r → r ≤ room_count case → price_of p r ≡ price_of q r
rivals_same case m s p q z rivals r a b =
    let n = room_count case in
    let none = no_excess case m s p q z (omega arith) rivals in
    let is = excess_is case m p q in
    let ours = prices_total p n rivals.priced.each ∙ rivals.priced.whole in
    let theirs = prices_total q n rivals.other_priced.each ∙ rivals.other_priced.whole in
    let one = each_same (price_of p) (higher p q) 1 n (λ k x y. (is_higher p q k).first) (omega (arith, ints, none, is, ours)) r a (omega arith) in
    let two = each_same (price_of q) (higher p q) 1 n (λ k x y. (is_higher p q k).second) (omega (arith, ints, none, is, theirs)) r a (omega arith) in
    one ∙ sym two
