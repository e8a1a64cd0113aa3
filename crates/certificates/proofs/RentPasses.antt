-- The canonical lines of a rent keep all rules.
use Rattle.std.proofs.Common.{◌≡◌, ℕ, ℤ, zero, suc, pos, ◌+◌, ◌<◌, ◌≤◌, ◌≤ℤ◌, ◌+ℤ◌, List, length, map, All, get_or, arith, sym, ap, ◌∙◌, subst, inl, inr, ⊎_elim}
use Rattle.std.proofs.lemmas.Int.{ints}
use Rattle.std.proofs.lemmas.List.{get_or-map, length-map}
use Rattle.arrayvec.specs.declared.array_vec.ArrayVec.{ArrayVec}
use Rattle.bid_rules.specs.declared.limits.TheConstants.{ITEM_ROOM}
use Rattle.bid_rules.specs.declared.rents.RentCase.{RentCase}
use Rattle.bid_rules.specs.Maximin.{AreMaximinPrices, value_step}
use Rattle.bid_rules.specs.Rent.{IsAssignment, IsValidRentCase, room_count}
use Rattle.bid_rules.specs.Walks.{AreShownRanks, AreShownWeights, weight_at}
use Rattle.split_lemmas.proofs.RoomPlaces.{room_range, rooms_length}
use Rattle.split_lemmas.proofs.SignedRows.{rows_again, rows_low, signed_again, signed_row, unsigned_row}
use Rattle.rent_maximin.specs.Division.{IsRentDivision}
use Rattle.rent_maximin.specs.declared.division.RentDivision.{RentDivision}
use Rattle.rent_rules.specs.Printed.{printed_case, printed_rooms}
use Rattle.rent_rules.specs.Rules.{AreAbove, AreRanked, AreReached, AreSettled, rent_rule}
use Rattle.certificates.specs.RentLines.{canonical_rent}

-- the printed case is the case itself
pub printed_is : (case : RentCase) (division : RentDivision) → IsAssignment case division.best.rooms.items → printed_case (canonical_rent case division) ≡ case
printed_is case division assignment =
    let made : ℕ → List (ArrayVec ℕ ITEM_ROOM (Unit {0})) → RentCase = λ n rows. record { facts = record { members = n; rent = case.facts.rent }; values = record { items = rows } } in
    let count : length (map pos division.best.rooms.items) ≡ room_count case = length-map division.best.rooms.items pos ∙ rooms_length (room_count case) division.best.rooms.items assignment in
    ap (λ (n : ℕ). made n (map (unsigned_row ITEM_ROOM) (map (signed_row ITEM_ROOM) case.values.items))) count ∙ ap (made (room_count case)) (rows_again ITEM_ROOM case.values.items)

-- rooms are 1 or more
rooms_low : (n : ℕ) (rooms : List ℕ) → length rooms ≡ n → ((k : ℕ) → k < n → 1 ≤ get_or rooms k 0) → All (λ x. pos 1 ≤ℤ x) (map pos rooms)
rooms_low n rooms long low k d l =
    let count = length-map rooms pos in
    let at : get_or (map pos rooms) k d ≡ pos (get_or rooms k 0) = get_or-map pos rooms k 0 d (omega (arith, count)) in
    let here = low k (omega (arith, count, long)) in
    omega (arith, ints, at, here)

-- ranks below the number of members that lead back keep the rule on ranks
are_ranked : (case : RentCase) (rooms : List ℕ) (walks : List ℤ) (ranks : List ℕ) → length ranks ≡ room_count case → All (λ rank. rank < room_count case) ranks
    → AreShownRanks (room_count case) (value_step case rooms) walks ranks → AreRanked case rooms walks (map pos ranks)
are_ranked case rooms walks ranks long few shown to l = ⊎_elim
    (λ (first : (get_or ranks to 0 ≡ 0) × (weight_at walks to ≡ pos 0)). inl (omega (arith, ints, at to l, first.0), first.1))
    (λ (next : (from : ℕ) × (from < room_count case) × (get_or ranks from 0 + 1 ≡ get_or ranks to 0) × (weight_at walks to ≡ weight_at walks from +ℤ value_step case rooms from to)).
    let here = at to l in
    let there = at next.0 next.1 in
    let most = few to 0 (omega (arith, long, l)) in
    let one = next.2 in
    inr (omega (arith, ints, here, one), omega (arith, ints, here, most), (next.0, next.1, (omega (arith, ints, here, there, one), next.3))))
    (shown to l)
  where
    at : (k : ℕ) → k < room_count case → weight_at (map pos ranks) k ≡ pos (get_or ranks k 0)
    at k m = get_or-map pos ranks k 0 (pos 0) (omega (arith, long, m))

-- all rules hold
pub rent_passes : (case : RentCase) (division : RentDivision) → IsValidRentCase case → IsRentDivision case division
    → AreShownWeights (room_count case) (value_step case division.best.rooms.items) division.walks.weights.items
    → AreShownRanks (room_count case) (value_step case division.best.rooms.items) division.walks.weights.items division.walks.ranks.items
    → (number : ℕ) → 1 ≤ number → number < 8 → rent_rule (canonical_rent case division) number
rent_passes case division valid is weights ranks = rule
  where
    rooms : List ℕ
    rooms = division.best.rooms.items

    printed : printed_case (canonical_rent case division) ≡ case
    printed = printed_is case division is.rooms.assignment

    same_rooms : printed_rooms (canonical_rent case division) ≡ rooms
    same_rooms = signed_again rooms

    long : length rooms ≡ room_count case
    long = rooms_length (room_count case) rooms is.rooms.assignment

    shown : (P : RentCase → List ℕ → Type 0) → P case rooms → P (printed_case (canonical_rent case division)) (printed_rooms (canonical_rent case division))
    shown P h = subst (λ (c : RentCase). P c (printed_rooms (canonical_rent case division))) (sym printed) (subst (λ (xs : List ℕ). P case xs) (sym same_rooms) h)

    rule : (number : ℕ) → 1 ≤ number → number < 8 → rent_rule (canonical_rent case division) number
    rule zero low high = absurd (omega arith)
    rule (suc zero) low high = record { rent = omega (arith, ints); values = rows_low ITEM_ROOM case.values.items; valid = subst IsValidRentCase (sym printed) valid }
    rule (suc (suc zero)) low high = record {
      positive = rooms_low (room_count case) rooms long (λ k l. (room_range (room_count case) rooms k is.rooms.assignment l).0);
      assignment = shown IsAssignment is.rooms.assignment;
    }
    rule (suc (suc (suc zero))) low high = shown (λ c xs. AreAbove c division.best.left.items division.best.right.items) is.dual.bound
    rule (suc (suc (suc (suc zero)))) low high = shown (λ c xs. AreReached c xs division.best.left.items division.best.right.items) is.dual.reached
    rule (suc (suc (suc (suc (suc zero))))) low high = shown (λ c xs. AreSettled c xs division.walks.weights.items) (record { low = weights.low; steps = weights.steps })
    rule (suc (suc (suc (suc (suc (suc zero)))))) low high = shown (λ c xs. AreRanked c xs division.walks.weights.items (map pos division.walks.ranks.items))
        (are_ranked case rooms division.walks.weights.items division.walks.ranks.items is.ranks.count is.rank_range ranks)
    rule (suc (suc (suc (suc (suc (suc (suc zero))))))) low high = shown (λ c xs. AreMaximinPrices c xs division.walks.weights.items (canonical_rent case division).prices) is.prices
    rule (suc (suc (suc (suc (suc (suc (suc (suc number)))))))) low high = absurd (omega arith)
