-- What the best division of a rent is by the formula for maximin prices: steps of envy, the longest walks over them, and the least utility that these leave (Gal and others 2016).
use Rattle.std.specs.Prelude.{◌≡◌, ℕ, ℤ, pos, ◌-◌, ◌<◌, ◌+ℤ◌, ◌-ℤ◌, ◌*ℤ◌, List, length, slice_index, slice_index_or}
use Rattle.bid_rules.specs.declared.rents.RentCase.{RentCase}
use Rattle.bid_rules.specs.Fractions.{Fraction, IsQuotient}
use Rattle.bid_rules.specs.Rent.{HasParts, price_of, room_count, sum_over_members, value, welfare}
use Rattle.bid_rules.specs.Walks.{weight_at}

-- the step from one member to another: how much more the other would pay for the first one's room than the first one would
abbrev pub value_step : RentCase → List ℕ → ℕ → ℕ → ℤ
value_step case rooms from to = value case to (slice_index rooms from) -ℤ value case from (slice_index rooms from)

-- n times the least utility: the welfare, less the rent and the sum of the walks' weights
abbrev pub least_in_parts : RentCase → List ℕ → List ℤ → ℤ
least_in_parts case rooms walks = welfare case rooms -ℤ pos case.facts.rent -ℤ sum_over_members case (weight_at walks)

-- n times the price of a member's room: n times its value, less n times the least utility and n times the weight of the member's walk
abbrev pub price_in_parts : RentCase → List ℕ → List ℤ → ℕ → ℤ
price_in_parts case rooms walks member =
    pos (room_count case) *ℤ value case member (slice_index rooms member) -ℤ (least_in_parts case rooms walks +ℤ pos (room_count case) *ℤ weight_at walks member)

-- a price for each room: the one that the formula gives for the member who has the room
pub record AreMaximinPrices (case : RentCase) (rooms : List ℕ) (walks : List ℤ) (prices : List Fraction) : Type 0 where
  pub count : length prices ≡ room_count case
  pub each : (member : ℕ) → member < room_count case
      → IsQuotient (slice_index_or prices (slice_index rooms member - 1) (pos 0, 1)) (price_in_parts case rooms walks member) (room_count case)

-- the prices by room, in n-ths of a cent, are those of the formula
abbrev pub ArePricesInParts : RentCase → List ℕ → List ℤ → List ℤ → Type 0
ArePricesInParts case rooms walks parts = (member : ℕ) → member < room_count case → price_of parts (slice_index rooms member) ≡ price_in_parts case rooms walks member

-- the prices are whole n-ths of a cent, and those of the formula
pub record HasFormulaParts (case : RentCase) (rooms : List ℕ) (walks : List ℤ) (prices : List Fraction) : Type 0 where
  pub parts : List ℤ
  pub count : length parts ≡ room_count case
  pub in_parts : HasParts prices (room_count case) parts
  pub formula : ArePricesInParts case rooms walks parts
