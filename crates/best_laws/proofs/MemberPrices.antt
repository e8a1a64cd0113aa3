-- Best prices, listed by member, sum to the rent.
use Rattle.std.proofs.Common.{◌≡◌, ℕ, ℤ, pos, ◌-◌, ◌<◌, ◌≤◌, List, [], ◌∷◌, length, map, All, get_or, arith, sym, subst, ◌∙◌}
use Rattle.std.specs.List.{range_with_len}
use Rattle.std.proofs.lemmas.List.{get_or_default}
use Rattle.std.proofs.lemmas.List.Elements.{All-head, All-tail}
use Rattle.bid_rules.specs.declared.rents.RentCase.{RentCase}
use Rattle.bid_rules.specs.Cents.{prices_by_member}
use Rattle.bid_rules.specs.Fractions.{Fraction, IsQuotient, sum_of_fractions}
use Rattle.bid_rules.specs.Rent.{HasParts, RentBest, price_of, room_count}
use Rattle.split_lemmas.proofs.PartLaws.{whole_sum}
use Rattle.split_lemmas.proofs.PriceLists.{prices_total}
use Rattle.split_lemmas.proofs.RoomPlaces.{rooms_length, room_range}
use Rattle.split_lemmas.proofs.SignedSums.{total-map, total-permutation}
use Rattle.split_lemmas.proofs.Zipped.{AllZip-get_or, length-AllZip}

-- a number of a room
abbrev IsRoom : ℕ → ℕ → Type 0
IsRoom n room = (1 ≤ room) × (room ≤ n)

-- the prices by member are whole in the parts in which the prices are
parts_of_members : (prices : List Fraction) (k : ℕ) (parts : List ℤ) (rooms : List ℕ) → HasParts prices k parts → All (IsRoom (length prices)) rooms → HasParts (prices_by_member rooms prices) k (map (price_of parts) rooms)
parts_of_members prices k parts [] h all = tt
parts_of_members prices k parts (room ∷ rooms) h all =
    let here = All-head (IsRoom (length prices)) room rooms all in
    let within : room - 1 < length prices = omega (arith, here.0, here.1) in
    (AllZip-get_or (λ price part. IsQuotient price part k) prices parts (room - 1) (pos 0, 1) (pos 0) within h, parts_of_members prices k parts rooms h (All-tail (IsRoom (length prices)) room rooms all))

-- the prices by member sum to the rent
pub member_prices_sum : (case : RentCase) (rooms : List ℕ) (prices : List Fraction) → RentBest case rooms prices → IsQuotient (sum_of_fractions (prices_by_member rooms prices)) (pos case.facts.rent) 1
member_prices_sum case rooms prices best =
    let n = room_count case in
    let long = rooms_length n rooms best.priced.assignment in
    let count : n ≡ length prices = sym best.priced.each ∙ length-AllZip (λ price part. IsQuotient price part best.k) prices best.parts best.in_parts in
    let all : All (IsRoom (length prices)) rooms = λ i d l.
    subst (IsRoom (length prices)) (get_or_default rooms i 0 d l) (subst (λ m. IsRoom m (get_or rooms i 0)) count (room_range n rooms i best.priced.assignment (omega (arith, l, long)))) in
    let by_member = parts_of_members prices best.k best.parts rooms best.in_parts all in
    let whole = total-map (λ part. part) (price_of best.parts) rooms ∙ total-permutation (price_of best.parts) (range_with_len 1 n) rooms best.priced.assignment ∙ prices_total best.parts n best.priced.each ∙ best.priced.whole in
    whole_sum best.k case.facts.rent (prices_by_member rooms prices) (map (price_of best.parts) rooms) best.priced.parts by_member whole
