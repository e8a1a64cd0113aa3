-- Tests of whether facts and bids are checked, in a form that definitions can compute with.
use Rattle.std.specs.Prelude.{ℕ, ◌+◌, Bool, false, ◌&&◌, ◌==◌, nat_le, List, ◌∷◌, length, sum}
use Rattle.std.specs.List.{list_all, range_with_len}
use Rattle.bid_rules.specs.declared.fares.Fares.{Fares}
use Rattle.bid_rules.specs.declared.goods.Goods.{Goods}
use Rattle.bid_rules.specs.declared.rents.Rent.{Rent}
use Rattle.bid_rules.specs.declared.bids.Facts.{Facts}
use Rattle.bid_rules.specs.declared.bids.Facts.TheVariants as facts
use Rattle.bid_rules.specs.declared.bids.Bid.{Bid}
use Rattle.bid_rules.specs.declared.bids.Bid.TheVariants as bid
use Rattle.bid_rules.specs.declared.limits.TheConstants.{FEWEST_MEMBERS, MOST_FARE_CENTS, MOST_GOODS, MOST_MEMBERS, MOST_PLACES, MOST_RENT, MOST_RIDERS, MOST_STEPS, WHOLE_POINTS}
use Rattle.bid_rules.specs.Facts.{leg, legs_in_order}

-- the number is in the range from low to high
abbrev pub is_between : ℕ → ℕ → ℕ → Bool
is_between low high n = nat_le low n && nat_le n high

-- there are this many values, and they sum to the whole
abbrev pub is_spread : ℕ → ℕ → List ℕ → Bool
is_spread items whole values = (length values == items) && (sum values == whole)

-- the facts about a rent have no fault
abbrev pub passes_rent : Rent → Bool
passes_rent rent = is_between FEWEST_MEMBERS MOST_MEMBERS rent.members && is_between 1 MOST_RENT rent.rent

-- the numbers of members and of goods are within the limits
abbrev pub has_counts : Goods → Bool
has_counts goods = is_between FEWEST_MEMBERS MOST_MEMBERS goods.members && is_between 1 MOST_GOODS goods.goods

-- the facts about goods have no fault
abbrev pub passes_goods : Goods → Bool
passes_goods goods = has_counts goods && is_between 1 MOST_STEPS goods.limit

-- there is a leg from the origin and from each place to each place
abbrev pub has_table : Fares → Bool
has_table fares = (length fares.legs.items == fares.places + 1) && list_all (λ row. length row.items == fares.places) fares.legs.items

-- the numbers of members and of places are within the limits, and the table has all legs
abbrev pub has_shape : Fares → Bool
has_shape fares = is_between FEWEST_MEMBERS MOST_RIDERS fares.members && is_between 1 MOST_PLACES fares.places && has_table fares

-- the facts about fares have no fault
abbrev pub passes_fares : Fares → Bool
passes_fares fares =
    has_shape fares && list_all (λ cents. nat_le cents MOST_FARE_CENTS) (fares.flag ∷ legs_in_order fares)
    && list_all (λ place. leg fares place place == 0) (range_with_len 1 fares.places)

-- the facts have no fault
abbrev pub passes_facts : Facts → Bool
passes_facts (facts.Rent rent) = passes_rent rent
passes_facts (facts.Goods goods) = passes_goods goods
passes_facts (facts.Fares fares) = passes_fares fares

-- the facts allow the bid
abbrev pub passes_bid : Facts → Bid → Bool
passes_bid (facts.Rent rent) (bid.Values values) = is_spread rent.members rent.rent values.items
passes_bid (facts.Goods goods) (bid.Values values) = is_spread goods.goods WHOLE_POINTS values.items
passes_bid (facts.Fares fares) (bid.Place place) = is_between 1 fares.places place
passes_bid given one = false
