-- What shows the best answer: dual numbers over the keys, walks that are attained and that no step exceeds, and the prices of the formula.
use Rattle.std.proofs.Common.{◌≡◌, ℕ, ℤ, pos, ◌+◌, ◌-◌, ◌<◌, ◌≤◌, List, get_or, arith, refl, sym, ap, ◌∙◌, subst}
use Rattle.std.proofs.lemmas.Int.{ints}
use Rattle.bid_rules.specs.declared.rents.RentCase.{RentCase}
use Rattle.bid_rules.specs.Fractions.{Fraction, IsQuotient}
use Rattle.bid_rules.specs.Rent.{room_count, IsAssignment, RentBest, IsLeastUtility}
use Rattle.bid_rules.specs.Walks.{weight_at, AreShownWeights}
use Rattle.bid_rules.specs.Keys.{HasGreatestKeySum, HasGreatestWelfare, IsFirstOfItsWelfare}
use Rattle.bid_rules.specs.Maximin.{value_step, least_in_parts, price_in_parts, AreMaximinPrices, HasFormulaParts}
use Rattle.best_laws.proofs.KeyOrder.{keys_best, keys_first, keys_only}
use Rattle.split_lemmas.proofs.ListPlaces.{choose, zip_places}
use Rattle.best_laws.proofs.MaximinLaws.{maximin_is_best, own_least}
use Rattle.split_lemmas.proofs.Permutations.{permutation_apart}
use Rattle.split_lemmas.proofs.RoomPlaces.{room_place, room_range}

-- the greatest sum of keys gives the greatest welfare
pub keys_welfare : (case : RentCase) (s : List ℕ) → HasGreatestKeySum case s → HasGreatestWelfare case s
keys_welfare case s best = record {
  assignment = best.assignment;
  greatest = λ t h. keys_best case s t best.assignment h (best.greatest t h);
}

-- and the first list of that welfare
pub keys_order : (case : RentCase) (s : List ℕ) → HasGreatestKeySum case s → IsFirstOfItsWelfare case s
keys_order case s best t h same = keys_first case s t best.assignment h (best.greatest t h) same

-- and only one assignment has it
pub keys_alone : (case : RentCase) (s t : List ℕ) → HasGreatestKeySum case s → HasGreatestKeySum case t → t ≡ s
keys_alone case s t best other =
    let less = best.greatest t other.assignment in
    let more = other.greatest s best.assignment in
    keys_only case s t best.assignment other.assignment (omega (arith, ints, less, more))

-- a member has the room after the place, and the number is the member's price in n-ths
record IsPartAt (case : RentCase) (s : List ℕ) (walks : List ℤ) (prices : List Fraction) (place : ℕ) (part : ℤ) : Type 0 where
  member : ℕ
  known : member < room_count case
  room : get_or s member 0 ≡ place + 1
  is : part ≡ price_in_parts case s walks member
  quotient : IsQuotient (get_or prices place (pos 0, 1)) part (room_count case)

-- each room has its price in n-ths
part_at : (case : RentCase) (s : List ℕ) (walks : List ℤ) (prices : List Fraction) → IsAssignment case s → AreMaximinPrices case s walks prices → (place : ℕ) → place < room_count case
    → (part : ℤ) × IsPartAt case s walks prices place part
part_at case s walks prices h formula place l =
    let n = room_count case in
    let there = room_place n s (place + 1) h (omega arith) (omega arith) in
    let back : get_or s there.0 0 - 1 ≡ place = omega (arith, there.2) in (
      price_in_parts case s walks there.0,
      record {
        member = there.0;
        known = there.1;
        room = there.2;
        is = refl;
        quotient = subst (λ k. IsQuotient (get_or prices k (pos 0, 1)) (price_in_parts case s walks there.0) n) back (formula.each there.0 there.1);
      },
    )

-- the prices of the formula are those of a list in n-ths
pub formula_parts : (case : RentCase) (s : List ℕ) (walks : List ℤ) (prices : List Fraction) → IsAssignment case s → AreMaximinPrices case s walks prices → HasFormulaParts case s walks prices
formula_parts case s walks prices h formula =
    let n = room_count case in
    let found = choose (IsPartAt case s walks prices) n (part_at case s walks prices h formula) in
    let long = formula.count in
    record {
      parts = found.0;
      count = found.1;
      in_parts = zip_places (λ price part. IsQuotient price part n) (pos 0, 1) (pos 0) prices found.0 (long ∙ sym found.1) (λ i l. (found.2 i (omega arith)).quotient);
      formula = λ i l.
          let range = room_range n s i h l in
          let place = get_or s i 0 - 1 in
          let at : IsPartAt case s walks prices place (weight_at found.0 place) = found.2 place (omega (arith, range.0, range.1)) in
          let same : at.member ≡ i = permutation_apart 1 n s at.member i h at.known l (at.room ∙ omega (arith, range.0)) in
          at.is ∙ ap (price_in_parts case s walks) same;
    }

-- the answer with the greatest sum of keys and the prices of the formula is the best
pub shown_is_best : (case : RentCase) (s : List ℕ) (walks : List ℤ) (prices : List Fraction) → 1 ≤ room_count case → HasGreatestKeySum case s
    → AreShownWeights (room_count case) (value_step case s) walks → AreMaximinPrices case s walks prices → RentBest case s prices
shown_is_best case s walks prices some best shown formula =
    let found = formula_parts case s walks prices best.assignment formula in
    maximin_is_best case s walks found.parts prices some (keys_welfare case s best) (keys_order case s best) shown found.count found.formula found.in_parts

-- and its least utility is that of the formula
pub shown_least : (case : RentCase) (s : List ℕ) (walks : List ℤ) (prices : List Fraction) (least : Fraction) → 1 ≤ room_count case → IsAssignment case s
    → AreShownWeights (room_count case) (value_step case s) walks → AreMaximinPrices case s walks prices → IsQuotient least (least_in_parts case s walks) (room_count case) → IsLeastUtility case s prices least
shown_least case s walks prices least some h shown formula is =
    let n = room_count case in
    let found = formula_parts case s walks prices h formula in
    record {
      k = n;
      some = some;
      parts = found.parts;
      in_parts = found.in_parts;
      value = subst (λ z. IsQuotient least z n) (sym (own_least case s walks found.parts some shown found.formula)) is;
    }
