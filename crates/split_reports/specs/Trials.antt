-- How the three cases of a trial are drawn, one after the other, from its number.
use Rattle.std.specs.Prelude.{ℕ, ◌+◌, ◌*◌, ◌%◌, ◌==◌, List, map, if◌then◌else◌, count_by, not}
use Rattle.std.specs.List.{range_with_len, sum_by}
use Rattle.arrayvec.specs.declared.array_vec.ArrayVec.{ArrayVec}
use Rattle.bid_rules.specs.declared.cases.FareCase.{FareCase}
use Rattle.bid_rules.specs.declared.goods.GoodsCase.{GoodsCase}
use Rattle.bid_rules.specs.declared.limits.TheConstants.{ITEM_ROOM, MOST_STEPS, PLACE_ROOM, WHOLE_POINTS}
use Rattle.bid_rules.specs.declared.rents.RentCase.{RentCase}
use Rattle.split_reports.specs.declared.limits.TheConstants.{FARE_MEMBERS, FLAGS, GOODS_DRAWS, GOODS_MEMBERS, LEAST_FLAG, LEAST_LEG, LEG_COUNT, RENT_DRAWS, RENT_MEMBERS, TRIAL_GOODS, TRIAL_PLACES, TRIAL_RENT}
use Rattle.split_reports.specs.TrialDraws.{after, seed, weights_behind}
use Rattle.split_reports.specs.TrialSpreads.{spread}

-- rows of values: in each, a whole is spread over as many columns, by weights that are drawn row by row
unfoldable pub rows_drawn : (draw rows columns whole : ℕ) → List (ArrayVec ℕ ITEM_ROOM (Unit {0}))
rows_drawn draw rows columns whole = map (λ row. record { items = spread whole (weights_behind (after (columns * row) draw) columns) }) (range_with_len 0 rows)

-- how many of the first few places are not the one from which a leg goes, where the origin is 0 and none of the places
abbrev pub others : ℕ → ℕ → ℕ
others from place = count_by (λ other. not (other == from)) (range_with_len 1 place)

-- the legs from the origin or a place to each place, with one draw for each other place
unfoldable pub legs_drawn : (draw from places : ℕ) → List ℕ
legs_drawn draw from places = map (λ place. if place == from then 0 else LEAST_LEG + after (others from place) draw % LEG_COUNT) (range_with_len 1 places)

-- how many draws the legs take from the origin and from the first few places
abbrev pub leg_draws : (places rows : ℕ) → ℕ
leg_draws places rows = sum_by (λ from. others from places) (range_with_len 0 rows)

-- the legs from the origin and from each place
unfoldable pub leg_table : (draw places rows : ℕ) → List (ArrayVec ℕ PLACE_ROOM (Unit {0}))
leg_table draw places rows = map (λ from. record { items = legs_drawn (after (leg_draws places from) draw) from places }) (range_with_len 0 rows)

-- a place for each rider, with one draw for each
unfoldable pub places_drawn : (draw riders places : ℕ) → List ℕ
places_drawn draw riders places = map (λ rider. 1 + after (rider + 1) draw % places) (range_with_len 0 riders)

-- the rent whose draws come after this draw
unfoldable pub rent_behind : ℕ → RentCase
rent_behind draw = record {
  facts = record { members = RENT_MEMBERS; rent = TRIAL_RENT };
  values = record { items = rows_drawn draw RENT_MEMBERS RENT_MEMBERS TRIAL_RENT };
}

-- the goods whose draws come after this draw, on which all members bid
unfoldable pub goods_behind : ℕ → GoodsCase
goods_behind draw = record {
  facts = record { members = GOODS_MEMBERS; goods = TRIAL_GOODS; limit = MOST_STEPS };
  who = record { items = range_with_len 1 GOODS_MEMBERS };
  values = record { items = rows_drawn draw GOODS_MEMBERS TRIAL_GOODS WHOLE_POINTS };
}

-- the fare whose draws come after this draw, on which all members bid: first the flag fall, then the legs, then the places
unfoldable pub fare_behind : ℕ → FareCase
fare_behind draw = record {
  facts = record {
    members = FARE_MEMBERS;
    places = TRIAL_PLACES;
    flag = LEAST_FLAG + after 1 draw % FLAGS;
    legs = record { items = leg_table (after 1 draw) TRIAL_PLACES (TRIAL_PLACES + 1) };
  };
  who = record { items = range_with_len 1 FARE_MEMBERS };
  at = record { items = places_drawn (after (leg_draws TRIAL_PLACES (TRIAL_PLACES + 1)) (after 1 draw)) FARE_MEMBERS TRIAL_PLACES };
}

-- the rent of a trial, whose draws come first
abbrev pub trial_rent : ℕ → RentCase
trial_rent number = rent_behind (seed number)

-- the goods of a trial, whose draws come after those of the rent
abbrev pub trial_goods : ℕ → GoodsCase
trial_goods number = goods_behind (after RENT_DRAWS (seed number))

-- the fare of a trial, whose draws come after those of the goods
abbrev pub trial_fare : ℕ → FareCase
trial_fare number = fare_behind (after GOODS_DRAWS (after RENT_DRAWS (seed number)))
