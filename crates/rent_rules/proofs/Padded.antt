-- A list by member of any length means the list of its first n numbers, with 0 where it has none.
use Rattle.std.proofs.Common.{◌≡◌, ℕ, ℤ, pos, sym, ◌-◌, ◌<◌, ◌+ℤ◌, ◌-ℤ◌, ◌*ℤ◌, List, length, map, get_or, arith, ap, ◌∙◌, subst, slice_index, slice_index_or}
use Rattle.std.specs.List.{range_with_len}
use Rattle.std.proofs.lemmas.List.{length-map, get_or-map}
use Rattle.std.proofs.lemmas.List.FromFn.{length-range_with_len, get_or-range_with_len}
use Rattle.bid_rules.specs.declared.rents.RentCase.{RentCase}
use Rattle.bid_rules.specs.Fractions.{Fraction, IsQuotient}
use Rattle.bid_rules.specs.Keys.{AreDualNumbers}
use Rattle.bid_rules.specs.Maximin.{AreMaximinPrices, least_in_parts, price_in_parts, value_step}
use Rattle.bid_rules.specs.Rent.{IsAssignment, room_count, value, welfare}
use Rattle.bid_rules.specs.Walks.{AreShownWeights, IsAttained, weight_at}
use Rattle.split_lemmas.proofs.RoomPlaces.{room_range}
use Rattle.split_lemmas.proofs.Totals.{total-same_range}
use Rattle.rent_rules.specs.Rules.{AreAbove, AreReached, AreSettled}

-- the first n numbers
pub padded : ℕ → List ℤ → List ℤ
padded n xs = map (weight_at xs) (range_with_len 0 n)

-- there are n of them
pub padded_length : (n : ℕ) (xs : List ℤ) → length (padded n xs) ≡ n
unfolding padded
padded_length n xs = length-map (range_with_len 0 n) (weight_at xs) ∙ length-range_with_len 0 n

-- each of them is the number at its place
pub padded_at : (n : ℕ) (xs : List ℤ) (i : ℕ) → i < n → weight_at (padded n xs) i ≡ weight_at xs i
unfolding padded
padded_at n xs i l =
    let count = length-range_with_len 0 n in
    get_or-map (weight_at xs) (range_with_len 0 n) i 0 (pos 0) (omega (arith, count)) ∙ ap (weight_at xs) (let e : get_or (range_with_len 0 n) i 0 ≡ i = (let g = get_or-range_with_len 0 n i 0 l in omega (arith, g)) in e)

-- numbers that are at least the keys and reach those of the rooms are dual numbers
pub are_dual : (case : RentCase) (rooms : List ℕ) (left right : List ℤ) → IsAssignment case rooms → AreAbove case left right → AreReached case rooms left right
    → AreDualNumbers case rooms (padded (room_count case) left) (padded (room_count case) right)
are_dual case rooms left right assignment above reached = record {
  lefts = padded_length (room_count case) left;
  rights = padded_length (room_count case) right;
  bound = λ member room within low high.
      let a = padded_at (room_count case) left member within in
      let b = padded_at (room_count case) right (room - 1) (omega arith) in
      rw (a, b) (above member room within low high);
  reached = λ member within.
      let range = room_range (room_count case) rooms member assignment within in
      let a = padded_at (room_count case) left member within in
      let b = padded_at (room_count case) right (slice_index rooms member - 1) (omega (arith, range.0, range.1)) in
      rw (a, b) (reached member within);
}

-- walks that are settled and attained are shown weights
pub are_weights : (case : RentCase) (rooms : List ℕ) (walks : List ℤ) → AreSettled case rooms walks
    → ((to : ℕ) → to < room_count case → IsAttained (room_count case) (value_step case rooms) to (weight_at walks to))
    → AreShownWeights (room_count case) (value_step case rooms) (padded (room_count case) walks)
are_weights case rooms walks settled attained = record {
  count = padded_length (room_count case) walks;
  low = λ to within. rw (padded_at (room_count case) walks to within) (settled.low to within);
  steps = λ from to l m. rw (padded_at (room_count case) walks from l, padded_at (room_count case) walks to m) (settled.steps from to l m);
  attained = λ to within. rw (padded_at (room_count case) walks to within) (attained to within);
}

-- prices of the formula stay so
pub are_prices : (case : RentCase) (rooms : List ℕ) (walks : List ℤ) (prices : List Fraction) → AreMaximinPrices case rooms walks prices
    → AreMaximinPrices case rooms (padded (room_count case) walks) prices
are_prices case rooms walks prices h = record { count = h.count; each = each }
  where
    sums : least_in_parts case rooms (padded (room_count case) walks) ≡ least_in_parts case rooms walks
    sums = ap (λ (sum : ℤ). welfare case rooms -ℤ pos case.facts.rent -ℤ sum)
        (total-same_range (weight_at (padded (room_count case) walks)) (weight_at walks) 0 (room_count case) (λ i low high. padded_at (room_count case) walks i (omega (arith, high))))

    part : (member : ℕ) → member < room_count case → price_in_parts case rooms (padded (room_count case) walks) member ≡ price_in_parts case rooms walks member
    part member within = ap (λ (least : ℤ). pos (room_count case) *ℤ value case member (slice_index rooms member) -ℤ (least +ℤ pos (room_count case) *ℤ weight_at (padded (room_count case) walks) member)) sums
        ∙ ap (λ (walk : ℤ). pos (room_count case) *ℤ value case member (slice_index rooms member) -ℤ (least_in_parts case rooms walks +ℤ pos (room_count case) *ℤ walk)) (padded_at (room_count case) walks member within)

    each : (member : ℕ) → member < room_count case
        → IsQuotient (slice_index_or prices (slice_index rooms member - 1) (pos 0, 1)) (price_in_parts case rooms (padded (room_count case) walks) member) (room_count case)
    each member within = subst (λ whole. IsQuotient (slice_index_or prices (slice_index rooms member - 1) (pos 0, 1)) whole (room_count case)) (sym (part member within)) (h.each member within)
