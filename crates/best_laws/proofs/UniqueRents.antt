-- Two best priced assignments have one list of rooms and the same prices.
use Rattle.std.proofs.Common.{◌≡◌, ℕ, ℤ, pos, ◌+◌, ◌-◌, ◌*◌, ◌<◌, ◌≤◌, ◌+ℤ◌, ◌*ℤ◌, ◌≤ℤ◌, List, [], ◌∷◌, length, map, get_or, arith, refl, sym, ap, ◌∙◌, subst}
use Rattle.std.specs.List.{AllZip}
use Rattle.std.proofs.lemmas.Int.{ints}
use Rattle.std.proofs.Math.IntN.{pos-*ℤ-pos}
use Rattle.std.proofs.lemmas.List.{get_or-map, length-map}
use Rattle.bid_rules.specs.declared.rents.RentCase.{RentCase}
use Rattle.bid_rules.specs.Fractions.{Fraction, IsQuotient, HasSameValue, sum_of_fractions}
use Rattle.bid_rules.specs.Rent.{value, room_count, IsPricedAssignment, price_of, utility_with, utility, IsEnvyFree, least_utility, RentBest}
use Rattle.bid_rules.specs.Sums.{total}
use Rattle.best_laws.proofs.LeastUtilities.{least_low}
use Rattle.split_lemmas.proofs.ListOrder.{same_from_neither}
use Rattle.split_lemmas.proofs.PartLaws.{same_prices, whole_sum}
use Rattle.split_lemmas.proofs.RoomPlaces.{room_range}
use Rattle.split_lemmas.proofs.Multiples.{multiple_cancel, multiple_difference, multiple_le, multiple_multiple}
use Rattle.split_lemmas.proofs.Totals.{total-times}
use Rattle.best_laws.proofs.UniquePrices.{AreRivals, rivals_same}

-- l times as many parts
finer : ℕ → List ℤ → List ℤ
finer l q = map (λ x. pos l *ℤ x) q

-- there are as many prices
finer_count : (l : ℕ) (q : List ℤ) → length (finer l q) ≡ length q
unfolding finer
finer_count l q = length-map q (λ x. pos l *ℤ x)

-- each price is l times as many parts
finer_at : (l : ℕ) (q : List ℤ) (i : ℕ) → i < length q → get_or (finer l q) i (pos 0) ≡ pos l *ℤ get_or q i (pos 0)
unfolding finer
finer_at l q i h = get_or-map (λ x. pos l *ℤ x) q i (pos 0) (pos 0) h

-- the prices sum to l times as many parts
finer_total : (l : ℕ) (q : List ℤ) → total (λ x. x) (finer l q) ≡ pos l *ℤ total (λ x. x) q
unfolding finer
finer_total l q = total-map l q ∙ total-times l (λ x. x) q
  where
    total-map : (l : ℕ) (q : List ℤ) → total (λ x. x) (map (λ x. pos l *ℤ x) q) ≡ total (λ x. pos l *ℤ x) q
    total-map l [] = refl
    total-map l (x ∷ q) = ap (λ z. pos l *ℤ x +ℤ z) (total-map l q)

-- the prices in l times as many parts
finer_priced : (case : RentCase) (k l : ℕ) (s : List ℕ) (q : List ℤ) → 1 ≤ l → IsPricedAssignment case k s q → IsPricedAssignment case (l * k) s (finer l q)
finer_priced case k l s q some p = record {
  parts = let parts = p.parts in grind (arith, some, parts);
  assignment = p.assignment;
  each = finer_count l q ∙ p.each;
  whole = finer_total l q ∙ ap (λ z. pos l *ℤ z) p.whole ∙ pos-*ℤ-pos l (k * case.facts.rent) ∙ ap pos (omega arith);
}

-- the utilities in l times as many parts
finer_with : (case : RentCase) (k l : ℕ) (s : List ℕ) (q : List ℤ) → IsPricedAssignment case k s q → (i r : ℕ) → 1 ≤ r → r ≤ room_count case
    → utility_with case (l * k) (finer l q) i r ≡ pos l *ℤ utility_with case k q i r
finer_with case k l s q p i r a b =
    let count = p.each in
    let price = finer_at l q (r - 1) (omega arith) in
    let worth = multiple_multiple l k (value case i r) in
    let split = multiple_difference l (pos k *ℤ value case i r) (price_of q r) in
    omega (arith, ints, price, worth, split)

-- nobody envies in the finer parts
finer_free : (case : RentCase) (k l : ℕ) (s : List ℕ) (q : List ℤ) → IsPricedAssignment case k s q → IsEnvyFree case k s q → IsEnvyFree case (l * k) s (finer l q)
finer_free case k l s q p free i r h a b =
    let own = room_range (room_count case) s i p.assignment h in
    let here = finer_with case k l s q p i (get_or s i 0) own.0 own.1 in
    let there = finer_with case k l s q p i r a b in
    let more = multiple_le l (utility_with case k q i r) (utility case k s q i) (free i r h a b) in
    omega (arith, ints, here, there, more)

-- the utilities are at least l times the least one
finer_low : (case : RentCase) (k l : ℕ) (s : List ℕ) (q : List ℤ) → IsPricedAssignment case k s q → (i : ℕ) → i < room_count case
    → (pos l *ℤ least_utility case k s q) ≤ℤ utility case (l * k) s (finer l q) i
finer_low case k l s q p i h =
    let own = room_range (room_count case) s i p.assignment h in
    let here = finer_with case k l s q p i (get_or s i 0) own.0 own.1 in
    let more = multiple_le l (least_utility case k s q) (utility case k s q i) (least_low (utility case k s q) (room_count case) i h) in
    omega (arith, ints, here, more)

-- two best ones have one least utility
same_least : (case : RentCase) (s t : List ℕ) (prices others : List Fraction) (best : RentBest case s prices) (other : RentBest case t others)
    → pos best.k *ℤ least_utility case other.k t other.parts ≡ pos other.k *ℤ least_utility case best.k s best.parts
same_least case s t prices others best other =
    let less = best.greatest other.k t other.parts other.priced other.envy_free in
    let more = other.greatest best.k s best.parts best.priced best.envy_free in
    omega (arith, ints, less, more)

-- so they have one list of rooms
pub same_rooms : (case : RentCase) (s t : List ℕ) (prices others : List Fraction) → RentBest case s prices → RentBest case t others → t ≡ s
same_rooms case s t prices others best other =
    same_from_neither t s
    (best.first other.k t other.parts other.priced other.envy_free (same_least case s t prices others best other))
    (other.first best.k s best.parts best.priced best.envy_free (sym (same_least case s t prices others best other)))

-- the prices of both in the same parts are rivals
best_rivals : (case : RentCase) (s : List ℕ) (prices others : List Fraction) (best : RentBest case s prices) (other : RentBest case s others)
    → AreRivals case (other.k * best.k) s (finer other.k best.parts) (finer best.k other.parts) (pos other.k *ℤ least_utility case best.k s best.parts)
best_rivals case s prices others best other =
    let n = room_count case in
    let k = best.k in
    let l = other.k in
    let turned : k * l ≡ l * k = omega arith in
    let q = finer k other.parts in
    record {
      priced = finer_priced case k l s best.parts other.priced.parts best.priced;
      free = finer_free case k l s best.parts best.priced best.envy_free;
      low = finer_low case k l s best.parts best.priced;
      other_priced = subst (λ m. IsPricedAssignment case m s q) turned (finer_priced case l k s other.parts best.priced.parts other.priced);
      other_free = subst (λ m. IsEnvyFree case m s q) turned (finer_free case l k s other.parts other.priced other.envy_free);
      other_low = λ i h. subst (λ m. (pos l *ℤ least_utility case k s best.parts) ≤ℤ utility case m s q i) turned
          (subst (λ z. z ≤ℤ utility case (k * l) s q i) (same_least case s s prices others best other) (finer_low case l k s other.parts other.priced i h));
      most = λ new priced free.
          let bound = best.greatest (n * (l * k)) s new priced free in
          let least = least_utility case k s best.parts in
          let order : n * (l * k) ≡ k * (n * l) = omega arith in
          let opened : pos (n * (l * k)) *ℤ least ≡ pos k *ℤ (pos n *ℤ (pos l *ℤ least)) =
          ap (λ m. pos m *ℤ least) order ∙ multiple_multiple k (n * l) least ∙ ap (λ z. pos k *ℤ z) (multiple_multiple n l least) in
          multiple_cancel k (least_utility case (n * (l * k)) s new) (pos n *ℤ (pos l *ℤ least)) best.priced.parts
          (subst (λ z. (pos k *ℤ least_utility case (n * (l * k)) s new) ≤ℤ z) opened bound);
    }

-- and the same prices
pub same_best_prices : (case : RentCase) (s t : List ℕ) (prices others : List Fraction) → RentBest case s prices → RentBest case t others → AllZip HasSameValue prices others
same_best_prices case s t prices others best given =
    let other : RentBest case s others = subst (λ rooms. RentBest case rooms others) (same_rooms case s t prices others best given) given in
    let rivals = best_rivals case s prices others best other in
    let ours = best.priced.each in
    let theirs = other.priced.each in
    same_prices prices others best.k other.k best.parts other.parts best.priced.parts other.priced.parts best.in_parts other.in_parts (ours ∙ sym theirs)
    (λ i l.
    let one = finer_at other.k best.parts i l in
    let two = finer_at best.k other.parts i (omega arith) in
    let back : i + 1 - 1 ≡ i = omega arith in
    let same = rivals_same case (other.k * best.k) s (finer other.k best.parts) (finer best.k other.parts) (pos other.k *ℤ least_utility case best.k s best.parts) rivals (i + 1) (omega arith) (omega arith) in
    sym one ∙ ap (λ j. get_or (finer other.k best.parts) j (pos 0)) (sym back) ∙ same ∙ ap (λ j. get_or (finer best.k other.parts) j (pos 0)) back ∙ two)

-- best prices sum to the rent
pub best_whole : (case : RentCase) (s : List ℕ) (prices : List Fraction) → RentBest case s prices → IsQuotient (sum_of_fractions prices) (pos case.facts.rent) 1
best_whole case s prices best = whole_sum best.k case.facts.rent prices best.parts best.priced.parts best.in_parts best.priced.whole
