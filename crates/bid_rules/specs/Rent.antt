-- Checked facts and valid cases of rent, priced assignments of rooms, and the best of these (Gal, Mash, Procaccia and Zick 2016).
use Rattle.std.specs.Prelude.{◌≡◌, ◌≢◌, ℕ, ℤ, pos, ◌-◌, ◌*◌, ◌<◌, ◌≤◌, ◌-ℤ◌, ◌*ℤ◌, ◌≤ℤ◌, List, [], length, map, fold, sum, All, slice_index, slice_index_or, unsigned_abs}
use Rattle.std.specs.List.{range_with_len, AllZip}
use Rattle.std.specs.List.Sorted.{IsPermutation}
use Rattle.std.specs.Int.{int_min}
use Rattle.std.specs.Cmp.Lexicographic.{slice_cmp}
use Rattle.std.specs.Ordering.{nat_cmp}
use Rattle.std.specs.declared.cmp.Ordering.TheVariants.{Less}
use Rattle.bid_rules.specs.declared.limits.TheConstants.{FEWEST_MEMBERS, MOST_MEMBERS, MOST_RENT}
use Rattle.bid_rules.specs.declared.rents.Rent.{Rent}
use Rattle.bid_rules.specs.declared.rents.RentCase.{RentCase}
use Rattle.bid_rules.specs.declared.bids.BidFault.{BidFault}
use Rattle.bid_rules.specs.declared.bids.BidFault.TheVariants as fault
use Rattle.bid_rules.specs.Fractions.{Fraction, IsQuotient}
use Rattle.bid_rules.specs.Sums.{total}

-- the number of members is within the limits
abbrev pub HasMembers : Rent → Type 0
HasMembers facts = (FEWEST_MEMBERS ≤ facts.members) × (facts.members ≤ MOST_MEMBERS)

-- the rent in cents is at least 1, and at most the greatest that there may be
abbrev pub HasRent : Rent → Type 0
HasRent facts = (1 ≤ facts.rent) × (facts.rent ≤ MOST_RENT)

-- facts on rent without a fault
abbrev pub IsCheckedRent : Rent → Type 0
IsCheckedRent facts = HasMembers facts × HasRent facts

-- the first fault of facts on rent, in the order of these cases
abbrev pub IsFaultOfRent : Rent → BidFault → Type 0
IsFaultOfRent facts fault.Count = HasMembers facts → ⊥
IsFaultOfRent facts (fault.Range place) = HasMembers facts × (place ≡ 0) × (HasRent facts → ⊥)
IsFaultOfRent facts (fault.Place place) = ⊥
IsFaultOfRent facts (fault.Sum got) = ⊥

-- a valid case of rent: checked facts, and for each member a value for every room, which sum to the rent
pub record IsValidRentCase (case : RentCase) : Type 0 where
  pub facts : IsCheckedRent case.facts
  pub bids : length case.values.items ≡ case.facts.members
  pub rooms : All (λ row. length row.items ≡ case.facts.members) case.values.items
  pub sums : All (λ row. sum row.items ≡ case.facts.rent) case.values.items

-- how many rooms there are: one for each member
abbrev pub room_count : RentCase → ℕ
room_count case = case.facts.members

-- what a member, by place from 0, would pay for a room, numbered from 1
unfoldable pub value : RentCase → ℕ → ℕ → ℤ
value case member room = pos (slice_index (slice_index_or case.values.items member (record { items = [] })).items (room - 1))

-- the sum of a function over the members, by place from 0
abbrev pub sum_over_members : RentCase → (ℕ → ℤ) → ℤ
sum_over_members case f = total f (range_with_len 0 (room_count case))

-- an assignment: a room for each member, by place, so that the rooms 1 to n are given out once each
abbrev pub IsAssignment : RentCase → List ℕ → Type 0
IsAssignment case rooms = IsPermutation (range_with_len 1 (room_count case)) rooms

-- the welfare of an assignment: the sum of what the members would pay for their own rooms
abbrev pub welfare : RentCase → List ℕ → ℤ
welfare case rooms = sum_over_members case (λ member. value case member (slice_index rooms member))

-- an assignment with a price for each room, in whole k-ths of a cent, which sum to the rent
pub record IsPricedAssignment (case : RentCase) (k : ℕ) (rooms : List ℕ) (prices : List ℤ) : Type 0 where
  pub parts : 1 ≤ k
  pub assignment : IsAssignment case rooms
  pub each : length prices ≡ room_count case
  -- the prices sum to the rent
  pub whole : total (λ price. price) prices ≡ pos (k * case.facts.rent)

-- the price of a room, numbered from 1
abbrev pub price_of : List ℤ → ℕ → ℤ
price_of prices room = slice_index_or prices (room - 1) (pos 0)

-- the utility that a member would have in a room, in k-ths of a cent: its value less its price
abbrev pub utility_with : RentCase → ℕ → List ℤ → ℕ → ℕ → ℤ
utility_with case k prices member room = pos k *ℤ value case member room -ℤ price_of prices room

-- the utility that a member has in the room assigned, in k-ths of a cent
abbrev pub utility : RentCase → ℕ → List ℕ → List ℤ → ℕ → ℤ
utility case k rooms prices member = utility_with case k prices member (slice_index rooms member)

-- nobody would have a greater utility in another room
abbrev pub IsEnvyFree : RentCase → ℕ → List ℕ → List ℤ → Type 0
IsEnvyFree case k rooms prices = (member room : ℕ) → member < room_count case → 1 ≤ room → room ≤ room_count case
    → utility_with case k prices member room ≤ℤ utility case k rooms prices member

-- the least utility of any member, in k-ths of a cent
abbrev pub least_utility : RentCase → ℕ → List ℕ → List ℤ → ℤ
least_utility case k rooms prices = fold int_min (utility case k rooms prices 0) (map (utility case k rooms prices) (range_with_len 0 (room_count case)))

-- an amount in k-ths of a cent, of either sign, is no further from 0 than the rent
abbrev pub IsWithinRent : RentCase → ℕ → ℤ → Type 0
IsWithinRent case k amount = unsigned_abs amount ≤ k * case.facts.rent

-- the fractions are the prices in k-ths of a cent
abbrev pub HasParts : List Fraction → ℕ → List ℤ → Type 0
HasParts prices k parts = AllZip (λ price part. IsQuotient price part k) prices parts

-- the maximin rule (Gal and others 2016), with a rule for ties: an envy-free priced assignment, such that no other, with whatever denominator, has a
-- greater least utility, and none with the same least utility has an earlier list of rooms
pub record RentBest (case : RentCase) (rooms : List ℕ) (prices : List Fraction) : Type 0 where
  -- the prices are whole k-ths of a cent, these by room
  pub k : ℕ
  pub parts : List ℤ
  pub in_parts : HasParts prices k parts
  pub priced : IsPricedAssignment case k rooms parts
  pub envy_free : IsEnvyFree case k rooms parts
  -- no envy-free priced assignment, in whatever l-ths of a cent, has a greater least utility
  pub greatest : (l : ℕ) (others : List ℕ) (other : List ℤ) → IsPricedAssignment case l others other → IsEnvyFree case l others other
      → (pos k *ℤ least_utility case l others other) ≤ℤ (pos l *ℤ least_utility case k rooms parts)
  -- and none with the same least utility has an earlier list of rooms
  pub first : (l : ℕ) (others : List ℕ) (other : List ℤ) → IsPricedAssignment case l others other → IsEnvyFree case l others other
      → pos k *ℤ least_utility case l others other ≡ pos l *ℤ least_utility case k rooms parts → slice_cmp nat_cmp others rooms ≢ Less

-- the fraction is the least utility of any member at these prices
pub record IsLeastUtility (case : RentCase) (rooms : List ℕ) (prices : List Fraction) (least : Fraction) : Type 0 where
  -- the prices are whole k-ths of a cent, these by room
  pub k : ℕ
  pub some : 1 ≤ k
  pub parts : List ℤ
  pub in_parts : HasParts prices k parts
  pub value : IsQuotient least (least_utility case k rooms parts) k
