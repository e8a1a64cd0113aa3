-- Each value of a valid case is from 0 to the rent.
use Rattle.std.proofs.Common.{ℕ, pos, ◌-◌, ◌<◌, ◌≤◌, ◌≤ℤ◌, [], length, get_or, sum, arith, ⊎_elim}
use Rattle.std.proofs.lemmas.Int.{ints}
use Rattle.std.proofs.lemmas.Bool.{cases_lt}
use Rattle.std.proofs.lemmas.List.{get_or_past}
use Rattle.std.proofs.lemmas.List.Sums.{get_or-le-sum_by}
use Rattle.bid_rules.specs.Rent.{value, room_count, IsValidRentCase}
use Rattle.bid_rules.specs.declared.rents.RentCase.{RentCase}

-- a value is 0 or more
pub value_low : (case : RentCase) (member room : ℕ) → pos 0 ≤ℤ value case member room
unfolding value
value_low case member room = omega (arith, ints)

-- a value is at most the rent
pub value_rent : (case : RentCase) (member room : ℕ) → IsValidRentCase case → member < room_count case → value case member room ≤ℤ pos case.facts.rent
unfolding value
value_rent case member room valid l =
    let bids = valid.bids in
    let within : member < length case.values.items = omega arith in
    let whole = valid.sums member (record { items = [] }) within in
    let row = (get_or case.values.items member (record { items = [] })).items in
    let h : get_or row (room - 1) 0 ≤ sum row = ⊎_elim
    (λ l. get_or-le-sum_by (λ x. x) row (room - 1) 0 l)
    (λ past. let e = get_or_past row (room - 1) 0 past in omega (arith, e))
    (cases_lt (room - 1) (length row)) in
    omega (arith, ints)
