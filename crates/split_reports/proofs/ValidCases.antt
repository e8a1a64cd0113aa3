-- The cases of a trial are valid.
use Rattle.std.proofs.Common.{◌≡◌, ℕ, zero, suc, ◌+◌, ◌-◌, ◌*◌, ◌%◌, ◌<◌, ◌≤◌, ◌==◌, List, [], ◌∷◌, All, Bool, true, false, cond, get_or, length, sum, ap, ◌∙◌, arith, lit≤}
use Rattle.std.specs.List.{flat_map, range_with_len}
use Rattle.std.specs.List.Sorted.{IsStrictlyIncreasing}
use Rattle.std.proofs.lemmas.Bool.Decides.{nat_tests}
use Rattle.std.proofs.lemmas.List.Elements.{All-cons, All-map, All-nil, All-weaker}
use Rattle.std.proofs.lemmas.List.FromFn.{get_or-map-range_with_len, get_or-range_with_len, length-map-range_with_len, length-range_with_len}
use Rattle.arrayvec.specs.declared.array_vec.ArrayVec.{ArrayVec}
use Rattle.bid_rules.specs.declared.limits.TheConstants.{ITEM_ROOM, MOST_FARE_CENTS, PLACE_ROOM, WHOLE_POINTS}
use Rattle.bid_rules.specs.Facts.{IsValidFareCase}
use Rattle.bid_rules.specs.Goods.{IsValidGoodsCase, player_count}
use Rattle.bid_rules.specs.Rent.{IsValidRentCase}
use Rattle.split_lemmas.proofs.OrderLaws.{All-flat_map}
use Rattle.split_reports.specs.declared.limits.TheConstants.{LEAST_FLAG, LEAST_LEG, LEG_COUNT, TRIAL_RENT}
use Rattle.split_reports.specs.TrialDraws.{after, weights_behind}
use Rattle.split_reports.specs.TrialSpreads.{spread}
use Rattle.split_reports.specs.Trials.{fare_behind, goods_behind, leg_draws, leg_table, legs_drawn, others, places_drawn, rent_behind, rows_drawn}
use Rattle.split_reports.proofs.Spreading.{shares_length, spread_whole}
use Rattle.split_reports.proofs.WeightSums.{weights_length, weights_low}

-- what holds of each number holds of all
each : {P : ℕ → Type 0} → ((x : ℕ) → P x) → (xs : List ℕ) → All P xs
each {P} so [] = All-nil P
each {P} so (x ∷ xs) = All-cons P x xs (so x) (each so xs)

range_all : (a n : ℕ) → All (λ k. (a ≤ k) × (k < a + n)) (range_with_len a n)
range_all a zero = All-nil (λ k. (a ≤ k) × (k < a + zero))
range_all a (suc n) =
    All-cons (λ k. (a ≤ k) × (k < a + suc n)) a (range_with_len (a + 1) n) (omega arith, omega arith)
    (All-weaker (λ k. (a + 1 ≤ k) × (k < a + 1 + n)) (λ k. (a ≤ k) × (k < a + suc n)) (λ k h. (omega arith, omega arith)) (range_with_len (a + 1) n) (range_all (a + 1) n))

range_rises : (a n : ℕ) → IsStrictlyIncreasing (range_with_len a n)
range_rises a n k l =
    let long = length-range_with_len a n in
    omega (arith, get_or-range_with_len a n k 0 (omega (arith, l, long)), get_or-range_with_len a n (k + 1) 0 (omega (arith, l, long)))

-- rows of values
Row : Type 0
Row = ArrayVec ℕ ITEM_ROOM (Unit {0})

rows_length : (draw rows columns whole : ℕ) → length (rows_drawn draw rows columns whole) ≡ rows
unfolding rows_drawn
rows_length draw rows columns whole = length-map-range_with_len (λ row. record { items = spread whole (weights_behind (after (columns * row) draw) columns) }) 0 rows

row_length : (whole draw columns : ℕ) → length (spread whole (weights_behind draw columns)) ≡ columns
row_length whole draw columns = shares_length whole (weights_behind draw columns) (length (weights_behind draw columns)) ∙ weights_length draw columns

rows_long : (draw rows columns whole : ℕ) → All (λ row. length row.items ≡ columns) (rows_drawn draw rows columns whole)
unfolding rows_drawn
rows_long draw rows columns whole =
    All-map (λ row. length row.items ≡ columns) (λ row. record { items = spread whole (weights_behind (after (columns * row) draw) columns) }) (range_with_len 0 rows)
    (each (λ row. row_length whole (after (columns * row) draw) columns) (range_with_len 0 rows))

rows_whole : (draw rows columns whole : ℕ) → 1 ≤ columns → All (λ row. sum row.items ≡ whole) (rows_drawn draw rows columns whole)
unfolding rows_drawn
rows_whole draw rows columns whole some =
    All-map (λ row. sum row.items ≡ whole) (λ row. record { items = spread whole (weights_behind (after (columns * row) draw) columns) }) (range_with_len 0 rows)
    (each
    (λ row.
    let low = weights_low (after (columns * row) draw) columns in
    spread_whole whole (weights_behind (after (columns * row) draw) columns) (omega (arith, low, some)))
    (range_with_len 0 rows))

pub rent_valid : (draw : ℕ) → IsValidRentCase (rent_behind draw)
unfolding rent_behind
rent_valid draw = record {
  facts = ((lit≤ tt, lit≤ tt), (lit≤ tt, lit≤ tt));
  bids = rows_length draw 12 12 TRIAL_RENT;
  rooms = rows_long draw 12 12 TRIAL_RENT;
  sums = rows_whole draw 12 12 TRIAL_RENT (lit≤ tt);
}

pub goods_players : (draw : ℕ) → player_count (goods_behind draw) ≡ 4
unfolding goods_behind
goods_players draw = rows_length draw 4 8 WHOLE_POINTS

pub goods_valid : (draw : ℕ) → IsValidGoodsCase (goods_behind draw)
unfolding goods_behind
goods_valid draw = record {
  facts = record { counts = (lit≤ tt, lit≤ tt, lit≤ tt, lit≤ tt); steps = (lit≤ tt, lit≤ tt) };
  rising = range_rises 1 4;
  members = All-weaker (λ k. (1 ≤ k) × (k < 1 + 4)) (λ k. (1 ≤ k) × (k ≤ 4)) (λ k h. (h.0, omega (arith, h.1))) (range_with_len 1 4) (range_all 1 4);
  some = lit≤ tt;
  each = rows_length draw 4 8 WHOLE_POINTS;
  goods = rows_long draw 4 8 WHOLE_POINTS;
  sums = rows_whole draw 4 8 WHOLE_POINTS (lit≤ tt);
}

-- legs are small, and that of a place to itself is 0
leg_small : (b : Bool) (x : ℕ) → cond b 0 (LEAST_LEG + x % LEG_COUNT) ≤ MOST_FARE_CENTS
leg_small true x = lit≤ tt
leg_small false x = omega arith

legs_small : (draw from places : ℕ) → All (λ cents. cents ≤ MOST_FARE_CENTS) (legs_drawn draw from places)
unfolding legs_drawn
legs_small draw from places =
    All-map (λ cents. cents ≤ MOST_FARE_CENTS) (λ place. cond (place == from) 0 (LEAST_LEG + after (others from place) draw % LEG_COUNT)) (range_with_len 1 places)
    (each (λ place. leg_small (place == from) (after (others from place) draw)) (range_with_len 1 places))

legs_length : (draw from places : ℕ) → length (legs_drawn draw from places) ≡ places
unfolding legs_drawn
legs_length draw from places = length-map-range_with_len (λ place. cond (place == from) 0 (LEAST_LEG + after (others from place) draw % LEG_COUNT)) 1 places

own_test : (p : ℕ) → (p == p) ≡ true
own_test p = grind (arith, nat_tests)

own_leg : (draw p places : ℕ) → 1 ≤ p → p ≤ places → get_or (legs_drawn draw p places) (p - 1) 0 ≡ 0
unfolding legs_drawn
own_leg draw p places low high =
    get_or-map-range_with_len (λ place. cond (place == p) 0 (LEAST_LEG + after (others p place) draw % LEG_COUNT)) 1 places (p - 1) p 0 (omega (arith, low, high)) (omega (arith, low))
    ∙ ap (λ b. cond b 0 (LEAST_LEG + after (others p p) draw % LEG_COUNT)) (own_test p)

Legs : Type 0
Legs = ArrayVec ℕ PLACE_ROOM (Unit {0})

table_length : (draw places rows : ℕ) → length (leg_table draw places rows) ≡ rows
unfolding leg_table
table_length draw places rows = length-map-range_with_len (λ from. record { items = legs_drawn (after (leg_draws places from) draw) from places }) 0 rows

table_long : (draw places rows : ℕ) → All (λ row. length row.items ≡ places) (leg_table draw places rows)
unfolding leg_table
table_long draw places rows =
    All-map (λ row. length row.items ≡ places) (λ from. record { items = legs_drawn (after (leg_draws places from) draw) from places }) (range_with_len 0 rows)
    (each (λ from. legs_length (after (leg_draws places from) draw) from places) (range_with_len 0 rows))

table_small : (draw places rows : ℕ) → All (λ row. All (λ cents. cents ≤ MOST_FARE_CENTS) row.items) (leg_table draw places rows)
unfolding leg_table
table_small draw places rows =
    All-map (λ row. All (λ cents. cents ≤ MOST_FARE_CENTS) row.items) (λ from. record { items = legs_drawn (after (leg_draws places from) draw) from places }) (range_with_len 0 rows)
    (each (λ from. legs_small (after (leg_draws places from) draw) from places) (range_with_len 0 rows))

table_own : (draw places rows p : ℕ) → 1 ≤ p → p ≤ places → p < rows → get_or (get_or (leg_table draw places rows) p (record { items = [] })).items (p - 1) 0 ≡ 0
unfolding leg_table
table_own draw places rows p low high inside =
    let row = get_or-map-range_with_len (λ (from : ℕ). let r : ArrayVec ℕ PLACE_ROOM (Unit {0}) = record { items = legs_drawn (after (leg_draws places from) draw) from places } in r) 0 rows p p (record { items = [] }) inside (omega arith) in
    ap (λ (r : ArrayVec ℕ PLACE_ROOM (Unit {0})). get_or r.items (p - 1) 0) row ∙ own_leg (after (leg_draws places p) draw) p places low high

flag_small : (x : ℕ) → LEAST_FLAG + x % 700 ≤ MOST_FARE_CENTS
flag_small x = omega arith

places_length : (draw riders places : ℕ) → length (places_drawn draw riders places) ≡ riders
unfolding places_drawn
places_length draw riders places = length-map-range_with_len (λ rider. 1 + after (rider + 1) draw % places) 0 riders

places_named : (draw riders places : ℕ) → 1 ≤ places → All (λ place. (1 ≤ place) × (place ≤ places)) (places_drawn draw riders places)
unfolding places_drawn
places_named draw riders places some =
    All-map (λ place. (1 ≤ place) × (place ≤ places)) (λ rider. 1 + after (rider + 1) draw % places) (range_with_len 0 riders)
    (each {P = λ rider. (1 ≤ 1 + after (rider + 1) draw % places) × (1 + after (rider + 1) draw % places ≤ places)} (λ rider. (omega arith, omega (arith, some))) (range_with_len 0 riders))

pub fare_valid : (draw : ℕ) → IsValidFareCase (fare_behind draw)
unfolding fare_behind
fare_valid draw = record {
  facts = record {
    shape = record {
      members_low = lit≤ tt;
      members_high = lit≤ tt;
      places_low = lit≤ tt;
      places_high = lit≤ tt;
      table = record { rows = table_length (after 1 draw) 10 11; columns = table_long (after 1 draw) 10 11 };
    };
    cents = All-cons (λ cents. cents ≤ MOST_FARE_CENTS) (LEAST_FLAG + after 1 draw % 700) (flat_map (λ row. row.items) (leg_table (after 1 draw) 10 11)) (flag_small (after 1 draw))
        (All-flat_map (λ cents. cents ≤ MOST_FARE_CENTS) (λ row. row.items) (leg_table (after 1 draw) 10 11) (table_small (after 1 draw) 10 11));
    own_legs = λ p low high. table_own (after 1 draw) 10 11 p low high (omega (arith, high));
  };
  rising = range_rises 1 4;
  members = All-weaker (λ k. (1 ≤ k) × (k < 1 + 4)) (λ k. (1 ≤ k) × (k ≤ 4)) (λ k h. (h.0, omega (arith, h.1))) (range_with_len 1 4) (range_all 1 4);
  some = lit≤ tt;
  each = places_length (after (leg_draws 10 11) (after 1 draw)) 4 10;
  places = places_named (after (leg_draws 10 11) (after 1 draw)) 4 10 (lit≤ tt);
}
