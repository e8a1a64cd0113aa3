-- Which case the caller's numbers make, if they make one.
use Rattle.std.specs.Prelude.{◌≡◌, ◌≤◌, ◌+◌, ◌*◌, ℕ, List, length, map, take, drop}
use Rattle.std.specs.List.{range_with_len}
use Rattle.bid_rules.specs.declared.cases.FareCase.{FareCase}
use Rattle.bid_rules.specs.declared.fares.Fares.{Fares}
use Rattle.bid_rules.specs.declared.goods.GoodsCase.{GoodsCase}
use Rattle.bid_rules.specs.declared.limits.TheConstants.{MOST_MEMBERS, MOST_RIDERS}
use Rattle.bid_rules.specs.declared.rents.RentCase.{RentCase}
use Rattle.bid_rules.specs.Facts.{IsCheckedFares, IsValidFareCase}
use Rattle.bid_rules.specs.Goods.{IsValidGoodsCase}
use Rattle.bid_rules.specs.Rent.{IsValidRentCase}

-- the rent with this many members and these values, member by member
abbrev pub rent_in : ℕ → ℕ → List ℕ → RentCase
rent_in members rent values = record {
  facts = record { members = members; rent = rent };
  values = record { items = map (λ k. record { items = take members (drop (k * members) values) }) (range_with_len 0 members) };
}

-- the numbers are a valid rent: there is a value for each member and room, and the case is valid
abbrev pub AreRent : ℕ → ℕ → List ℕ → Type 0
AreRent members rent values = (length values ≡ members * members) × IsValidRentCase (rent_in members rent values)

-- the goods with as many members as there may be, these players, and these values, player by player
abbrev pub goods_in : ℕ → ℕ → List ℕ → List ℕ → GoodsCase
goods_in goods limit who values = record {
  facts = record { members = MOST_MEMBERS; goods = goods; limit = limit };
  who = record { items = who };
  values = record { items = map (λ k. record { items = take goods (drop (k * goods) values) }) (range_with_len 0 (length who)) };
}

-- the numbers are valid goods: there is a value for each player and good, and the case is valid
abbrev pub AreGoods : ℕ → ℕ → List ℕ → List ℕ → Type 0
AreGoods goods limit who values = (length who ≤ MOST_MEMBERS) × (length values ≡ length who * goods) × IsValidGoodsCase (goods_in goods limit who values)

-- the facts of a fare with as many members as there may be, and these legs, row by row
abbrev pub facts_in : ℕ → ℕ → List ℕ → Fares
facts_in places flag legs = record {
  members = MOST_RIDERS;
  places = places;
  flag = flag;
  legs = record { items = map (λ k. record { items = take places (drop (k * places) legs) }) (range_with_len 0 (places + 1)) };
}

-- there is a leg from the origin and from each place to each place, and the facts keep their rules
abbrev pub HasLegs : ℕ → ℕ → List ℕ → Type 0
HasLegs places flag legs = (length legs ≡ (places + 1) * places) × IsCheckedFares (facts_in places flag legs)

-- the fare with these facts, these riders, and where they get off
abbrev pub with_riders : Fares → List ℕ → List ℕ → FareCase
with_riders facts who at = record { facts = facts; who = record { items = who }; at = record { items = at } }

-- there are riders of these facts, and they make a valid case
abbrev pub HasRiders : Fares → List ℕ → List ℕ → Type 0
HasRiders facts who at = (length who ≤ MOST_RIDERS) × (length at ≤ MOST_RIDERS) × IsValidFareCase (with_riders facts who at)

-- the fare with these legs and these riders
abbrev pub fare_in : ℕ → ℕ → List ℕ → List ℕ → List ℕ → FareCase
fare_in places flag legs who at = with_riders (facts_in places flag legs) who at

-- the numbers are a valid fare: there is a leg for each start and place, and the case is valid
abbrev pub AreFare : ℕ → ℕ → List ℕ → List ℕ → List ℕ → Type 0
AreFare places flag legs who at = (length legs ≡ (places + 1) * places) × HasRiders (facts_in places flag legs) who at
