-- What a cent plan is: the exact amounts of a best division in whole cents. Each amount is floored, and the cents left over go to the greatest remainders.
use Rattle.std.specs.Prelude.{◌≡◌, ℕ, ℤ, pos, ◌+ℤ◌, ◌-ℤ◌, ◌*ℤ◌, ◌≤ℤ◌, ◌-◌, ◌*◌, ◌<◌, Bool, if◌then◌else◌, int_lt, List, length, map, count_by, slice_index_or, unsigned_abs}
use Rattle.std.specs.List.{range_with_len}
use Rattle.std.specs.Int.{int_div_euclid}
use Rattle.std.specs.Ordering.{int_cmp, nat_cmp, ordering_then, is_lt}
use Rattle.std.specs.declared.cmp.Ordering.{Ordering}
use Rattle.bid_rules.specs.Fractions.{Fraction}
use Rattle.bid_rules.specs.Sums.{total}

-- the greatest whole number that is not above the fraction
abbrev pub floor_of : Fraction → ℤ
floor_of amount = int_div_euclid amount.0 (pos amount.1)

-- the fraction less its floor
abbrev pub remainder_of : Fraction → Fraction
remainder_of amount = (amount.0 -ℤ floor_of amount *ℤ pos amount.1, amount.1)

-- the order of two fractions by their values
abbrev pub fraction_cmp : Fraction → Fraction → Ordering
fraction_cmp a b = int_cmp (a.0 *ℤ pos b.1) (b.0 *ℤ pos a.1)

-- the amount at a place of the list, from 0
abbrev pub amount_at : List Fraction → ℕ → Fraction
amount_at amounts place = slice_index_or amounts place (pos 0, 1)

-- a place comes before another when a leftover cent is given out: its remainder is greater, or the remainders are equal and it is
-- the lower place
unfoldable pub comes_before : List Fraction → ℕ → ℕ → Bool
comes_before amounts place other =
    is_lt (ordering_then (fraction_cmp (remainder_of (amount_at amounts other)) (remainder_of (amount_at amounts place))) (nat_cmp place other))

-- how many places come before this one when a leftover cent is given out
abbrev pub places_before : List Fraction → ℕ → ℕ
places_before amounts place = count_by (λ other. comes_before amounts other place) (range_with_len 0 (length amounts))

-- how many cents are left over: the whole less the sum of the floors
abbrev pub cents_left : List Fraction → ℤ → ℤ
cents_left amounts whole = whole -ℤ total floor_of amounts

-- the whole cents at a place: the floor, and one cent more if fewer places come before it than cents are left over
abbrev pub cents_at : List Fraction → ℤ → ℕ → ℤ
cents_at amounts whole place =
    floor_of (amount_at amounts place) +ℤ (if int_lt (pos (places_before amounts place)) (cents_left amounts whole) then pos 1 else pos 0)

-- the cent plan of exact amounts that sum to the whole: the whole cents at each place
abbrev pub cent_plan : List Fraction → ℤ → List ℤ
cent_plan amounts whole = map (cents_at amounts whole) (range_with_len 0 (length amounts))

-- the list is the cent plan of the amounts
abbrev pub IsCentPlan : List Fraction → ℤ → List ℤ → Type 0
IsCentPlan amounts whole plan = plan ≡ cent_plan amounts whole

-- the whole cents differ from the exact amount by less than one cent
abbrev pub IsWithinOneCent : Fraction → ℤ → Type 0
IsWithinOneCent amount cents = unsigned_abs (cents *ℤ pos amount.1 -ℤ amount.0) < amount.1

-- paying x in place of the first amount adds at most one cent more than paying y in place of the second
abbrev pub AddsAtMostOneMore : Fraction → ℤ → Fraction → ℤ → Type 0
AddsAtMostOneMore a x b y = ((x *ℤ pos a.1 -ℤ a.0) *ℤ pos b.1) ≤ℤ ((y *ℤ pos b.1 -ℤ b.0) *ℤ pos a.1 +ℤ pos (a.1 * b.1))

-- the price of each member's room, in the order of the members
abbrev pub prices_by_member : List ℕ → List Fraction → List Fraction
prices_by_member rooms prices = map (λ room. amount_at prices (room - 1)) rooms
