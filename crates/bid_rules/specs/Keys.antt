-- Keys of members and rooms, defined for the best division of a rent: the greatest sum of keys is that of the first assignment of greatest welfare, and dual numbers show it.
use Rattle.std.specs.Prelude.{◌≡◌, ◌≢◌, ℕ, ℤ, pos, ◌-◌, ◌*◌, ◌^◌, ◌<◌, ◌≤◌, ◌+ℤ◌, ◌-ℤ◌, ◌*ℤ◌, ◌≤ℤ◌, List, length, slice_index}
use Rattle.std.specs.Cmp.Lexicographic.{slice_cmp}
use Rattle.std.specs.Ordering.{nat_cmp}
use Rattle.std.specs.declared.cmp.Ordering.TheVariants.{Less}
use Rattle.bid_rules.specs.declared.rents.RentCase.{RentCase}
use Rattle.bid_rules.specs.Rent.{IsAssignment, price_of, room_count, sum_over_members, value, welfare}
use Rattle.bid_rules.specs.Walks.{weight_at}

-- the key of a member, by place from 0, and a room, numbered from 1: the value times n^n, less a digit in base n that counts against giving high
-- rooms to early members
abbrev pub key : RentCase → ℕ → ℕ → ℤ
key case member room = pos (room_count case ^ room_count case) *ℤ value case member room -ℤ pos ((room - 1) * room_count case ^ (room_count case - 1 - member))

-- the sum of the keys of the members' own rooms
abbrev pub key_sum : RentCase → List ℕ → ℤ
key_sum case rooms = sum_over_members case (λ member. key case member (slice_index rooms member))

-- no assignment has a greater sum of keys
pub record HasGreatestKeySum (case : RentCase) (rooms : List ℕ) : Type 0 where
  pub assignment : IsAssignment case rooms
  pub greatest : (others : List ℕ) → IsAssignment case others → key_sum case others ≤ℤ key_sum case rooms

-- no assignment has a greater welfare
pub record HasGreatestWelfare (case : RentCase) (rooms : List ℕ) : Type 0 where
  pub assignment : IsAssignment case rooms
  pub greatest : (others : List ℕ) → IsAssignment case others → welfare case others ≤ℤ welfare case rooms

-- no assignment of the same welfare comes before it as a list
abbrev pub IsFirstOfItsWelfare : RentCase → List ℕ → Type 0
IsFirstOfItsWelfare case rooms = (others : List ℕ) → IsAssignment case others → welfare case others ≡ welfare case rooms → slice_cmp nat_cmp others rooms ≢ Less

-- dual numbers of an assignment: a member's and a room's together are at least the key of the two, and equal to it at the member's own room
pub record AreDualNumbers (case : RentCase) (rooms : List ℕ) (left right : List ℤ) : Type 0 where
  pub lefts : length left ≡ room_count case
  pub rights : length right ≡ room_count case
  pub bound : (member room : ℕ) → member < room_count case → 1 ≤ room → room ≤ room_count case → key case member room ≤ℤ (weight_at left member +ℤ price_of right room)
  pub reached : (member : ℕ) → member < room_count case
      → weight_at left member +ℤ price_of right (slice_index rooms member) ≡ key case member (slice_index rooms member)

-- the step from one member to another over the keys: the other's key for the first one's room, less the first one's key for it
abbrev pub key_step : RentCase → List ℕ → ℕ → ℕ → ℤ
key_step case rooms from to = key case to (slice_index rooms from) -ℤ key case from (slice_index rooms from)
