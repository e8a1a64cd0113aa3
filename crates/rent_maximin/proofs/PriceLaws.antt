-- What the prices are computed from, and that prices made room by room are those of the formula.
use Rattle.std.proofs.Common.{◌≡◌, ℕ, ℤ, pos, ◌-◌, ◌*◌, ◌<◌, ◌≤◌, List, length, All, get_or, unsigned_abs, arith, sym, ap, ◌∙◌, subst}
use Rattle.std.proofs.lemmas.List.Elements.{All-weaker}
use Rattle.bid_rules.specs.declared.limits.TheConstants.{MOST_MEMBERS}
use Rattle.bid_rules.specs.declared.rents.RentCase.{RentCase}
use Rattle.bid_rules.specs.Fractions.{Fraction, IsQuotient}
use Rattle.bid_rules.specs.Rent.{room_count, IsAssignment, IsValidRentCase}
use Rattle.bid_rules.specs.Maximin.{price_in_parts, AreMaximinPrices}
use Rattle.room_assignment.specs.declared.limits.TheConstants.{MOST_STEP}
use Rattle.split_lemmas.proofs.Permutations.{permutation_apart}
use Rattle.split_lemmas.proofs.RoomPlaces.{room_range, rooms_length}
use Rattle.rent_maximin.specs.Prices.{HasWalks, IsPriceAt}

-- rooms and walks that are read from lists are those that the prices are computed from
pub has_walks : (case : RentCase) (s rooms : List ℕ) (weights walks : List ℤ) → IsValidRentCase case → IsAssignment case s → length weights ≡ room_count case → All (λ z. unsigned_abs z ≤ MOST_STEP * room_count case) weights
    → rooms ≡ s → walks ≡ weights → HasWalks case rooms walks
has_walks case s rooms weights walks valid h count small same read =
    let n = room_count case in
    let few = valid.facts.0 in
    record {
      valid = valid;
      assignment = subst (IsAssignment case) (sym same) h;
      rooms_count = ap length same ∙ rooms_length n s h;
      walks_count = ap length read ∙ count;
      small = subst (All (λ z. unsigned_abs z ≤ MOST_MEMBERS * MOST_STEP)) (sym read) (All-weaker (λ z. unsigned_abs z ≤ MOST_STEP * n) (λ z. unsigned_abs z ≤ MOST_MEMBERS * MOST_STEP) (λ z a. omega (arith, a, few)) weights small);
    }

-- the prices by room are those of the formula by member
pub prices_are : (case : RentCase) (s : List ℕ) (walks : List ℤ) (prices : List Fraction) → IsAssignment case s → length prices ≡ room_count case
    → ((place : ℕ) → place < room_count case → IsPriceAt case s walks place (get_or prices place (pos 0, 1))) → AreMaximinPrices case s walks prices
prices_are case s walks prices h count each = record {
  count = count;
  each = λ i l.
      let n = room_count case in
      let range = room_range n s i h l in
      let place = get_or s i 0 - 1 in
      let at : IsPriceAt case s walks place (get_or prices place (pos 0, 1)) = each place (omega (arith, range.0, range.1)) in
      let part = at.1 in
      let same : part.0 ≡ i = permutation_apart 1 n s part.0 i h part.1 l (part.2 ∙ omega (arith, range.0)) in
      subst (λ z. IsQuotient (get_or prices place (pos 0, 1)) z n) (part.3 ∙ ap (price_in_parts case s walks) same) at.2;
}
