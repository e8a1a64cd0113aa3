-- The seven rules that a certificate of a rent keeps. They show that its rooms and prices are the best (Gal, Mash, Procaccia and Zick 2016).
use Rattle.std.specs.Prelude.{◌≡◌, ℕ, ℤ, pos, ◌-◌, ◌<◌, ◌≤◌, ◌≤ℤ◌, ◌+ℤ◌, ◌⊎◌, List, [], ◌∷◌, All, slice_index}
use Rattle.bid_rules.specs.declared.rents.RentCase.{RentCase}
use Rattle.bid_rules.specs.Keys.{key}
use Rattle.bid_rules.specs.Maximin.{AreMaximinPrices, value_step}
use Rattle.bid_rules.specs.Rent.{IsAssignment, IsValidRentCase, price_of, room_count}
use Rattle.bid_rules.specs.Walks.{weight_at}
use Rattle.cert_reader.specs.Layout.{RentView}
use Rattle.rent_rules.specs.Printed.{printed_case, printed_rooms}
use Rattle.rule_verdicts.specs.Verdicts.{rule_at}

-- rule 1: the printed numbers are 0 or more, and they form a valid case: 2 to 12 members, a rent in range, and for each member values that sum to the rent
pub record HasCase (view : RentView) : Type 0 where
  pub rent : pos 0 ≤ℤ view.rent
  pub values : All (λ row. All (λ value. pos 0 ≤ℤ value) row) view.values
  pub valid : IsValidRentCase (printed_case view)

-- rule 2: the printed rooms are the rooms 1 to n in some order
pub record HasRooms (view : RentView) : Type 0 where
  pub positive : All (λ room. pos 1 ≤ℤ room) view.rooms
  pub assignment : IsAssignment (printed_case view) (printed_rooms view)

-- rule 3: the dual numbers of a member and of a room together are at least the key of this member for this room
abbrev pub AreAbove : RentCase → List ℤ → List ℤ → Type 0
AreAbove case left right = (member room : ℕ) → member < room_count case → 1 ≤ room → room ≤ room_count case
    → key case member room ≤ℤ (weight_at left member +ℤ price_of right room)

-- rule 4: the dual numbers of a member and of the member's own room together are the key of this member for this room
abbrev pub AreReached : RentCase → List ℕ → List ℤ → List ℤ → Type 0
AreReached case rooms left right = (member : ℕ) → member < room_count case
    → weight_at left member +ℤ price_of right (slice_index rooms member) ≡ key case member (slice_index rooms member)

-- rule 5: no walk is below 0, and no step from one member to another leads higher than the walk to that other member
pub record AreSettled (case : RentCase) (rooms : List ℕ) (walks : List ℤ) : Type 0 where
  pub low : (to : ℕ) → to < room_count case → pos 0 ≤ℤ weight_at walks to
  pub steps : (from to : ℕ) → from < room_count case → to < room_count case → (weight_at walks from +ℤ value_step case rooms from to) ≤ℤ weight_at walks to

-- the walk to a member is the walk to this other member, whose rank is one less, and one more step
abbrev pub IsLed : RentCase → List ℕ → List ℤ → List ℤ → ℕ → ℕ → Type 0
IsLed case rooms walks ranks to from = (weight_at ranks from +ℤ pos 1 ≡ weight_at ranks to) × (weight_at walks to ≡ weight_at walks from +ℤ value_step case rooms from to)

-- rule 6: each member has rank 0 and a walk of 0; or a rank of 1 to n - 1 and a walk that is a step longer than the walk to a member whose rank is one less
abbrev pub AreRanked : RentCase → List ℕ → List ℤ → List ℤ → Type 0
AreRanked case rooms walks ranks = (to : ℕ) → to < room_count case
    → ((weight_at ranks to ≡ pos 0) × (weight_at walks to ≡ pos 0))
    ⊎ ((pos 1 ≤ℤ weight_at ranks to) × (weight_at ranks to ≤ℤ pos (room_count case - 1)) × ((from : ℕ) × (from < room_count case) × IsLed case rooms walks ranks to from))

-- the seven rules of a certificate of a rent, in order
abbrev pub rules_of_rent : RentView → List (Type 0)
rules_of_rent view = HasCase view ∷ HasRooms view ∷ AreAbove (printed_case view) view.left view.right ∷ AreReached (printed_case view) (printed_rooms view) view.left view.right
    ∷ AreSettled (printed_case view) (printed_rooms view) view.walks ∷ AreRanked (printed_case view) (printed_rooms view) view.walks view.ranks
    ∷ AreMaximinPrices (printed_case view) (printed_rooms view) view.walks view.prices ∷ []

-- the rule of a rent with this number, counted from 1
abbrev pub rent_rule : RentView → ℕ → Type 0
rent_rule view number = rule_at (rules_of_rent view) number
