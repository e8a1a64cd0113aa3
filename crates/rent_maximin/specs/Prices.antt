-- What the prices are computed from, and the prices by room, while the formula goes by member.
use Rattle.std.specs.Prelude.{◌≡◌, ℕ, ℤ, ◌+◌, ◌*◌, ◌<◌, ◌≤◌, List, length, All, slice_index, unsigned_abs}
use Rattle.bid_rules.specs.declared.limits.TheConstants.{MOST_MEMBERS}
use Rattle.bid_rules.specs.declared.rents.RentCase.{RentCase}
use Rattle.bid_rules.specs.Fractions.{Fraction, IsQuotient}
use Rattle.bid_rules.specs.Maximin.{least_in_parts, price_in_parts}
use Rattle.bid_rules.specs.Rent.{IsAssignment, IsValidRentCase, room_count}
use Rattle.room_assignment.specs.declared.limits.TheConstants.{MOST_STEP}

-- a valid case, an assignment, and for each member the weight of a walk
pub record HasWalks (case : RentCase) (rooms : List ℕ) (walks : List ℤ) : Type 0 where
  pub valid : IsValidRentCase case
  pub assignment : IsAssignment case rooms
  pub rooms_count : length rooms ≡ room_count case
  pub walks_count : length walks ≡ room_count case
  pub small : All (λ weight. unsigned_abs weight ≤ MOST_MEMBERS * MOST_STEP) walks

-- the number is n times the least utility that the formula gives
pub record IsLeastOf (case : RentCase) (rooms : List ℕ) (walks : List ℤ) (least : ℤ) : Type 0 where
  pub is : least ≡ least_in_parts case rooms walks
  pub small : unsigned_abs least ≤ 200 * MOST_STEP

-- the number is n times the price of the room at this place, from 0: the price for the member who has the room
abbrev pub IsPartAt : RentCase → List ℕ → List ℤ → ℕ → ℤ → Type 0
IsPartAt case rooms walks place part = (member : ℕ) × (member < room_count case) × (slice_index rooms member ≡ place + 1) × (part ≡ price_in_parts case rooms walks member)

-- the fraction is the price of the room at this place, from 0
abbrev pub IsPriceAt : RentCase → List ℕ → List ℤ → ℕ → Fraction → Type 0
IsPriceAt case rooms walks place price = (part : ℤ) × IsPartAt case rooms walks place part × IsQuotient price part (room_count case)
