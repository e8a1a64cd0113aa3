-- The prices of the formula are envy-free and reach the bound on the least utility, so they are the best.
use Rattle.std.proofs.Common.{◌≡◌, ℕ, ℤ, pos, ◌<◌, ◌≤◌, ◌+ℤ◌, ◌-ℤ◌, ◌*ℤ◌, ◌≤ℤ◌, List, length, get_or, arith, sym, ap, ◌∙◌, subst}
use Rattle.std.specs.List.{range_with_len}
use Rattle.std.proofs.lemmas.Int.{ints}
use Rattle.std.proofs.Math.IntN.{*ℤ-zero, pos-*ℤ-pos}
use Rattle.bid_rules.specs.declared.rents.RentCase.{RentCase}
use Rattle.bid_rules.specs.Fractions.{Fraction}
use Rattle.bid_rules.specs.Rent.{value, room_count, sum_over_members, IsAssignment, welfare, IsPricedAssignment, price_of, utility_with, utility, IsEnvyFree, least_utility, HasParts, RentBest}
use Rattle.bid_rules.specs.Walks.{weight_at, AreShownWeights}
use Rattle.bid_rules.specs.Keys.{HasGreatestWelfare, IsFirstOfItsWelfare}
use Rattle.bid_rules.specs.Maximin.{ArePricesInParts, value_step, least_in_parts, price_in_parts}
use Rattle.best_laws.proofs.EnvyFreeWelfare.{free_is_best}
use Rattle.split_lemmas.proofs.PriceLists.{prices_total}
use Rattle.best_laws.proofs.LeastUtilities.{least_low, least_reached, upper}
use Rattle.split_lemmas.proofs.RoomPlaces.{room_place, members_sum}
use Rattle.best_laws.proofs.WalkWeights.{zero_weight}
use Rattle.split_lemmas.proofs.Multiples.{multiple_difference, multiple_le, multiple_sum}
use Rattle.split_lemmas.proofs.Totals.{total-sub, total-times, total-const, total-same_range}
use Rattle.split_lemmas.proofs.SignedSums.{total-add}

-- the utilities that the prices leave
own_utility : (case : RentCase) (s : List ℕ) (walks q : List ℤ) → ArePricesInParts case s walks q → (i : ℕ) → i < room_count case
    → utility case (room_count case) s q i ≡ least_in_parts case s walks +ℤ pos (room_count case) *ℤ weight_at walks i
own_utility case s walks q are i l = let h = are i l in omega (arith, ints, h)

-- the least of them is that of the formula
pub own_least : (case : RentCase) (s : List ℕ) (walks q : List ℤ) → 1 ≤ room_count case → AreShownWeights (room_count case) (value_step case s) walks → ArePricesInParts case s walks q
    → least_utility case (room_count case) s q ≡ least_in_parts case s walks
own_least case s walks q some shown are =
    let n = room_count case in
    let f : ℕ → ℤ = utility case n s q in
    let zero_at = zero_weight n (value_step case s) walks some shown in
    let reached = least_reached f n some in
    let low = least_low f n zero_at.0 zero_at.1 in
    let here = own_utility case s walks q are zero_at.0 zero_at.1 in
    let there = own_utility case s walks q are reached.0 reached.1 in
    let scaled = multiple_le n (pos 0) (weight_at walks reached.0) (shown.low reached.0 reached.1) in
    let none = *ℤ-zero (pos n) in
    let nothing : pos n *ℤ weight_at walks zero_at.0 ≡ pos 0 = ap (λ z. pos n *ℤ z) zero_at.2 ∙ none in
    omega (arith, ints, reached.2, low, here, there, scaled, none, nothing)

-- the prices sum to the rent
pub own_priced : (case : RentCase) (s : List ℕ) (walks q : List ℤ) → 1 ≤ room_count case → IsAssignment case s → length q ≡ room_count case → ArePricesInParts case s walks q
    → IsPricedAssignment case (room_count case) s q
own_priced case s walks q some h count are = record {
  parts = some;
  assignment = h;
  each = count;
  whole =
      let n = room_count case in
      let least = least_in_parts case s walks in
      let prices = sym (prices_total q n count) ∙ sym (members_sum (price_of q) s n h) in
      let same = total-same_range (λ i. price_of q (get_or s i 0)) (price_in_parts case s walks) 0 n (λ i a b. are i (omega arith)) in
      let split = total-sub (λ i. pos n *ℤ value case i (get_or s i 0)) (λ i. least +ℤ pos n *ℤ weight_at walks i) (range_with_len 0 n) in
      let values = total-times n (λ i. value case i (get_or s i 0)) (range_with_len 0 n) in
      let add = total-add (λ i. least) (λ i. pos n *ℤ weight_at walks i) (range_with_len 0 n) in
      let const = total-const least 0 n in
      let times = total-times n (weight_at walks) (range_with_len 0 n) in
      let one = multiple_difference n (welfare case s -ℤ pos case.facts.rent) (sum_over_members case (weight_at walks)) in
      let two = multiple_difference n (welfare case s) (pos case.facts.rent) in
      let last = pos-*ℤ-pos n case.facts.rent in
      omega (arith, ints, prices, same, split, values, add, const, times, one, two, last);
}

-- nobody envies, since no step exceeds the walks
pub own_envy_free : (case : RentCase) (s : List ℕ) (walks q : List ℤ) → IsAssignment case s → AreShownWeights (room_count case) (value_step case s) walks → ArePricesInParts case s walks q
    → IsEnvyFree case (room_count case) s q
own_envy_free case s walks q h shown are i r l a b =
    let n = room_count case in
    let there = room_place n s r h a b in
    let j = there.0 in
    let mine = are i l in
    let theirs = are j there.1 in
    let step = shown.steps j i there.1 l in
    let scaled = multiple_le n (weight_at walks j +ℤ value_step case s j i) (weight_at walks i) step in
    let one = multiple_sum n (weight_at walks j) (value_step case s j i) in
    let two = multiple_difference n (value case i (get_or s j 0)) (value case j (get_or s j 0)) in
    subst (λ room. utility_with case n q i room ≤ℤ utility case n s q i) there.2 (omega (arith, ints, mine, theirs, scaled, one, two))

-- the first assignment of greatest welfare, with the prices of the formula, is the best
pub maximin_is_best : (case : RentCase) (s : List ℕ) (walks q : List ℤ) (prices : List Fraction) → 1 ≤ room_count case → HasGreatestWelfare case s → IsFirstOfItsWelfare case s
    → AreShownWeights (room_count case) (value_step case s) walks → length q ≡ room_count case → ArePricesInParts case s walks q → HasParts prices (room_count case) q → RentBest case s prices
maximin_is_best case s walks q prices some best first shown count are zipped =
    let n = room_count case in
    let least = own_least case s walks q some shown are in
    record {
      k = n;
      parts = q;
      in_parts = zipped;
      priced = own_priced case s walks q some best.assignment count are;
      envy_free = own_envy_free case s walks q best.assignment shown are;
      greatest = λ l t p priced free. subst (λ z. (pos n *ℤ least_utility case l t p) ≤ℤ (pos l *ℤ z)) (sym least)
          (upper case l t p s walks (least_utility case l t p) priced free best.assignment (best.greatest t priced.assignment) shown.attained (λ i a. least_low (utility case l t p) n i a));
      first = λ l t p priced free same. first t priced.assignment
          (let more = free_is_best case l t p s priced free best.assignment in let less = best.greatest t priced.assignment in omega (arith, ints));
    }
