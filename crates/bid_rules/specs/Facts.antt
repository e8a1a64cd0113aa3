-- Which facts and bids are checked, the first fault of those that aren't, and the cases that checked ones make.
use Rattle.std.specs.Prelude.{◌≡◌, ◌≢◌, ℕ, ◌+◌, ◌-◌, ◌<◌, ◌≤◌, List, [], ◌∷◌, length, All, flat_map, slice_index, slice_index_or, ⊤, Bool, if◌then◌else◌, is_some, is_none, sum, IsNone, IsSome, Option, Some, None, Result, Ok, Err}
use Rattle.std.specs.List.{filter_map, enumerate_from, list_all}
use Rattle.std.specs.List.Sorted.{IsStrictlyIncreasing}
use Rattle.bid_rules.specs.declared.limits.TheConstants.{FEWEST_MEMBERS, ITEM_ROOM, MOST_FARE_CENTS, MOST_PLACES, MOST_RIDERS, WHOLE_POINTS}
use Rattle.bid_rules.specs.declared.fares.Fares.{Fares}
use Rattle.bid_rules.specs.declared.bids.Facts.{Facts}
use Rattle.bid_rules.specs.declared.bids.Facts.TheVariants as facts
use Rattle.bid_rules.specs.declared.bids.Bid.{Bid}
use Rattle.bid_rules.specs.declared.bids.Bid.TheVariants as bid
use Rattle.bid_rules.specs.declared.bids.BidFault.{BidFault}
use Rattle.bid_rules.specs.declared.bids.BidFault.TheVariants as fault
use Rattle.bid_rules.specs.declared.cases.Case.{Case}
use Rattle.bid_rules.specs.declared.cases.Case.TheVariants as case
use Rattle.bid_rules.specs.declared.cases.FareCase.{FareCase}
use Rattle.bid_rules.specs.declared.cases.Missing.{Missing}
use Rattle.bid_rules.specs.declared.goods.Goods.{Goods}
use Rattle.bid_rules.specs.declared.goods.GoodsCase.{GoodsCase}
use Rattle.bid_rules.specs.declared.rents.Rent.{Rent}
use Rattle.bid_rules.specs.declared.rents.RentCase.{RentCase}
use Rattle.bid_rules.specs.Goods.{IsCheckedGoods, IsValidGoodsCase}
use Rattle.bid_rules.specs.Rent.{IsCheckedRent, IsValidRentCase}
use Rattle.arrayvec.specs.declared.array_vec.ArrayVec.{ArrayVec}

-- there is a leg from the origin and from each place to each place
pub record HasTable (facts : Fares) : Type 0 where
  pub rows : length facts.legs.items ≡ facts.places + 1
  pub columns : All (λ row. length row.items ≡ facts.places) facts.legs.items

-- the numbers of members and of places are within the limits, and the table has all legs
pub record HasShape (facts : Fares) : Type 0 where
  pub members_low : FEWEST_MEMBERS ≤ facts.members
  pub members_high : facts.members ≤ MOST_RIDERS
  pub places_low : 1 ≤ facts.places
  pub places_high : facts.places ≤ MOST_PLACES
  pub table : HasTable facts

-- all legs, row by row
abbrev pub legs_in_order : Fares → List ℕ
legs_in_order facts = flat_map (λ row. row.items) facts.legs.items

-- the cost of the leg from the origin, which is 0, or from a place to a place
abbrev pub leg : Fares → ℕ → ℕ → ℕ
leg facts from to = slice_index (slice_index_or facts.legs.items from (record { items = [] })).items (to - 1)

-- the number at this place is the first above the limit of cents
pub record IsFirstAboveLimit (numbers : List ℕ) (place : ℕ) : Type 0 where
  pub stands : place < length numbers
  pub above : MOST_FARE_CENTS < slice_index numbers place
  pub first : (k : ℕ) → k < place → slice_index numbers k ≤ MOST_FARE_CENTS

-- this place is the first whose leg to itself is not 0
pub record IsFirstOwnLeg (facts : Fares) (place : ℕ) : Type 0 where
  pub low : 1 ≤ place
  pub high : place ≤ facts.places
  pub counts : 0 < leg facts place place
  pub first : (p : ℕ) → 1 ≤ p → p < place → leg facts p p ≡ 0

-- the flag fall and each leg are at most the limit of cents
abbrev pub AreWithinLimit : Fares → Type 0
AreWithinLimit facts = All (λ cents. cents ≤ MOST_FARE_CENTS) (facts.flag ∷ legs_in_order facts)

-- facts about fares without a fault: their shape is right, all amounts are within the limit, and each place's leg to itself costs 0
pub record IsCheckedFares (facts : Fares) : Type 0 where
  pub shape : HasShape facts
  pub cents : AreWithinLimit facts
  pub own_legs : (p : ℕ) → 1 ≤ p → p ≤ facts.places → leg facts p p ≡ 0

-- the first fault of facts about fares, in the order of these cases; place 0 is the flag fall, and the places after it are the legs, row by
-- row
abbrev pub IsFaultOfFares : Fares → BidFault → Type 0
IsFaultOfFares facts fault.Count = HasShape facts → ⊥
IsFaultOfFares facts (fault.Range place) = HasShape facts × IsFirstAboveLimit (facts.flag ∷ legs_in_order facts) place
IsFaultOfFares facts (fault.Place place) = HasShape facts × AreWithinLimit facts × IsFirstOwnLeg facts place
IsFaultOfFares facts (fault.Sum got) = ⊥

-- facts without a fault
abbrev pub IsCheckedFacts : Facts → Type 0
IsCheckedFacts (facts.Rent rent) = IsCheckedRent rent
IsCheckedFacts (facts.Goods goods) = IsCheckedGoods goods
IsCheckedFacts (facts.Fares fares) = IsCheckedFares fares

-- the number of members that the facts give
abbrev pub member_count : Facts → ℕ
member_count (facts.Rent rent) = rent.members
member_count (facts.Goods goods) = goods.members
member_count (facts.Fares fares) = fares.members

-- there is one value for each item, and the values sum to the whole
abbrev pub IsSpread : ℕ → ℕ → List ℕ → Type 0
IsSpread items whole values = (length values ≡ items) × (sum values ≡ whole)

-- the first fault, in the order of these cases, of values that should have one entry for each item and sum to the whole
abbrev pub IsFaultOfSpread : ℕ → ℕ → List ℕ → BidFault → Type 0
IsFaultOfSpread items whole values fault.Count = length values ≢ items
IsFaultOfSpread items whole values (fault.Sum got) = (length values ≡ items) × (got ≡ sum values) × (sum values ≢ whole)
IsFaultOfSpread items whole values (fault.Range place) = ⊥
IsFaultOfSpread items whole values (fault.Place place) = ⊥

-- the bid gives one value for each item, and the values sum to the whole
abbrev pub Spreads : ℕ → ℕ → Bid → Type 0
Spreads items whole (bid.Values values) = IsSpread items whole values.items
Spreads items whole (bid.Place place) = ⊥

-- the first fault of a bid that should give one value for each item, and these should sum to the whole
abbrev pub IsFaultOfSpreading : ℕ → ℕ → Bid → BidFault → Type 0
IsFaultOfSpreading items whole (bid.Values values) other = IsFaultOfSpread items whole values.items other
IsFaultOfSpreading items whole (bid.Place place) fault.Count = ⊤
IsFaultOfSpreading items whole (bid.Place place) other = ⊥

-- the bid gives a value for each room, and the values sum to the rent
abbrev pub AreValuesOf : Rent → Bid → Type 0
AreValuesOf rent given = Spreads rent.members rent.rent given

-- the bid gives points to each good, and they sum to the total that each player spreads
abbrev pub ArePointsOf : Goods → Bid → Type 0
ArePointsOf goods given = Spreads goods.goods WHOLE_POINTS given

-- the bid names one of the places
abbrev pub IsPlaceOf : Fares → Bid → Type 0
IsPlaceOf fares (bid.Values values) = ⊥
IsPlaceOf fares (bid.Place place) = (1 ≤ place) × (place ≤ fares.places)

-- the bid has no fault under these facts
abbrev pub IsCheckedBid : Facts → Bid → Type 0
IsCheckedBid (facts.Rent rent) given = AreValuesOf rent given
IsCheckedBid (facts.Goods goods) given = ArePointsOf goods given
IsCheckedBid (facts.Fares fares) given = IsPlaceOf fares given

-- the first fault of a bid under these facts
abbrev pub IsFaultOfBid : Facts → Bid → BidFault → Type 0
IsFaultOfBid (facts.Rent rent) given other = IsFaultOfSpreading rent.members rent.rent given other
IsFaultOfBid (facts.Goods goods) given other = IsFaultOfSpreading goods.goods WHOLE_POINTS given other
IsFaultOfBid (facts.Fares fares) (bid.Values values) fault.Count = ⊤
IsFaultOfBid (facts.Fares fares) (bid.Place place) (fault.Place got) = (got ≡ place) × ((1 ≤ place) × (place ≤ fares.places) → ⊥)
IsFaultOfBid (facts.Fares fares) given other = ⊥

-- the members, numbered from 1, whose entry passes the test
abbrev pub members_where : (Option Bid → Bool) → List (Option Bid) → List ℕ
members_where test bids = filter_map (λ entry. if test entry.1 then Some entry.0 else None) (enumerate_from 1 bids)

-- the place that a bid names, if it names one
abbrev pub place_named : Option Bid → Option ℕ
place_named None = None
place_named (Some (bid.Values values)) = None
place_named (Some (bid.Place place)) = Some place

-- the case of fares of the members who bid, in rising order, each with their place
abbrev pub fare_case : Fares → List (Option Bid) → FareCase
fare_case facts bids = record {
  facts = facts;
  who = record { items = members_where is_some bids };
  at = record { items = filter_map place_named bids };
}

-- the values that a bid gives, if it gives values
abbrev pub values_given : Option Bid → Option (ArrayVec ℕ ITEM_ROOM (Unit {0}))
values_given None = None
values_given (Some (bid.Values values)) = Some values
values_given (Some (bid.Place place)) = None

-- the case of rent of all members, each with their values
abbrev pub rent_case : Rent → List (Option Bid) → RentCase
rent_case facts bids = record { facts = facts; values = record { items = filter_map values_given bids } }

-- the case of goods of the members who bid, in rising order, each with their points
abbrev pub goods_case : Goods → List (Option Bid) → GoodsCase
goods_case facts bids = record {
  facts = facts;
  who = record { items = members_where is_some bids };
  values = record { items = filter_map values_given bids };
}

-- the members without a bid, in rising order
abbrev pub members_missing : List (Option Bid) → Missing
members_missing bids = record { members = record { items = members_where is_none bids } }

-- bids are missing: for a rent if any member has none, for goods and fares if nobody has bid
abbrev pub AreMissing : Facts → List (Option Bid) → Type 0
AreMissing (facts.Rent rent) bids = All (λ bid. IsSome bid) bids → ⊥
AreMissing (facts.Goods goods) bids = All (λ bid. IsNone bid) bids
AreMissing (facts.Fares fares) bids = All (λ bid. IsNone bid) bids

-- the case that facts and bids make, or the members without a bid if bids are missing
abbrev pub case_of : Facts → List (Option Bid) → Result Case Missing
case_of (facts.Rent rent) bids = if list_all is_some bids then Ok (case.Rent (rent_case rent bids)) else Err (members_missing bids)
case_of (facts.Goods goods) bids = if list_all is_none bids then Err (members_missing bids) else Ok (case.Goods (goods_case goods bids))
case_of (facts.Fares fares) bids = if list_all is_none bids then Err (members_missing bids) else Ok (case.Fares (fare_case fares bids))

-- a valid case of fares: checked facts, and riders in rising order of member, each with a place
pub record IsValidFareCase (case : FareCase) : Type 0 where
  pub facts : IsCheckedFares case.facts
  pub rising : IsStrictlyIncreasing case.who.items
  pub members : All (λ member. (1 ≤ member) × (member ≤ case.facts.members)) case.who.items
  pub some : 1 ≤ length case.who.items
  pub each : length case.at.items ≡ length case.who.items
  pub places : All (λ place. (1 ≤ place) × (place ≤ case.facts.places)) case.at.items

-- a valid case: checked facts with checked bids
abbrev pub IsValidCase : Case → Type 0
IsValidCase (case.Rent rent) = IsValidRentCase rent
IsValidCase (case.Goods goods) = IsValidGoodsCase goods
IsValidCase (case.Fares fares) = IsValidFareCase fares

-- the facts of a case
abbrev pub facts_of : Case → Facts
facts_of (case.Rent rent) = facts.Rent rent.facts
facts_of (case.Goods goods) = facts.Goods goods.facts
facts_of (case.Fares fares) = facts.Fares fares.facts
