-- The cases, put together of what is drawn.
use Rattle.std.proofs.Common.{◌≡◌, ℕ, ◌+◌, ◌%◌, List, ap, ◌∙◌}
use Rattle.std.specs.List.{range_with_len}
use Rattle.arrayvec.specs.declared.array_vec.ArrayVec.{ArrayVec}
use Rattle.bid_rules.specs.declared.cases.FareCase.{FareCase}
use Rattle.bid_rules.specs.declared.goods.GoodsCase.{GoodsCase}
use Rattle.bid_rules.specs.declared.limits.TheConstants.{ITEM_ROOM, LEG_ROW_ROOM, MEMBER_ROOM, MOST_STEPS, PLACE_ROOM, RIDER_ROOM, WHOLE_POINTS}
use Rattle.bid_rules.specs.declared.rents.RentCase.{RentCase}
use Rattle.split_reports.specs.declared.limits.TheConstants.{FARE_MEMBERS, FLAGS, GOODS_MEMBERS, LEAST_FLAG, RENT_MEMBERS, TRIAL_GOODS, TRIAL_PLACES, TRIAL_RENT}
use Rattle.split_reports.specs.TrialDraws.{after}
use Rattle.split_reports.specs.Trials.{fare_behind, goods_behind, leg_draws, leg_table, places_drawn, rent_behind, rows_drawn}

rent_with : List (ArrayVec ℕ ITEM_ROOM (Unit {0})) → RentCase
rent_with rows = record { facts = record { members = RENT_MEMBERS; rent = TRIAL_RENT }; values = record { items = rows } }

pub rent_is : (draw : ℕ) (values : ArrayVec (ArrayVec ℕ ITEM_ROOM (Unit {0})) MEMBER_ROOM (Unit {0})) → values.items ≡ rows_drawn draw RENT_MEMBERS RENT_MEMBERS TRIAL_RENT
    → record { facts = record { members = RENT_MEMBERS; rent = TRIAL_RENT }; values = values } ≡ rent_behind draw
unfolding rent_behind rent_with
rent_is draw values is = ap rent_with is

goods_with : List ℕ → List (ArrayVec ℕ ITEM_ROOM (Unit {0})) → GoodsCase
goods_with who rows = record { facts = record { members = GOODS_MEMBERS; goods = TRIAL_GOODS; limit = MOST_STEPS }; who = record { items = who }; values = record { items = rows } }

pub goods_are : (draw : ℕ) (who : ArrayVec ℕ MEMBER_ROOM (Unit {0})) (values : ArrayVec (ArrayVec ℕ ITEM_ROOM (Unit {0})) MEMBER_ROOM (Unit {0}))
    → who.items ≡ range_with_len 1 GOODS_MEMBERS → values.items ≡ rows_drawn draw GOODS_MEMBERS TRIAL_GOODS WHOLE_POINTS
    → record { facts = record { members = GOODS_MEMBERS; goods = TRIAL_GOODS; limit = MOST_STEPS }; who = who; values = values } ≡ goods_behind draw
unfolding goods_behind goods_with
goods_are draw who values all is = ap (λ xs. goods_with xs values.items) all ∙ ap (goods_with (range_with_len 1 GOODS_MEMBERS)) is

fare_with : ℕ → List (ArrayVec ℕ PLACE_ROOM (Unit {0})) → List ℕ → List ℕ → FareCase
fare_with flag legs who at = record {
  facts = record { members = FARE_MEMBERS; places = TRIAL_PLACES; flag = flag; legs = record { items = legs } };
  who = record { items = who };
  at = record { items = at };
}

pub fare_is : (draw flag : ℕ) (legs : ArrayVec (ArrayVec ℕ PLACE_ROOM (Unit {0})) LEG_ROW_ROOM (Unit {0})) (who at : ArrayVec ℕ RIDER_ROOM (Unit {0}))
    → flag ≡ LEAST_FLAG + after 1 draw % FLAGS → legs.items ≡ leg_table (after 1 draw) TRIAL_PLACES (TRIAL_PLACES + 1) → who.items ≡ range_with_len 1 FARE_MEMBERS
    → at.items ≡ places_drawn (after (leg_draws TRIAL_PLACES (TRIAL_PLACES + 1)) (after 1 draw)) FARE_MEMBERS TRIAL_PLACES
    → record { facts = record { members = FARE_MEMBERS; places = TRIAL_PLACES; flag = flag; legs = legs }; who = who; at = at } ≡ fare_behind draw
unfolding fare_behind fare_with
fare_is draw flag legs who at first table all places =
    ap (λ f. fare_with f legs.items who.items at.items) first
    ∙ ap (λ l. fare_with (LEAST_FLAG + after 1 draw % FLAGS) l who.items at.items) table
    ∙ ap (λ w. fare_with (LEAST_FLAG + after 1 draw % FLAGS) (leg_table (after 1 draw) TRIAL_PLACES (TRIAL_PLACES + 1)) w at.items) all
    ∙ ap (fare_with (LEAST_FLAG + after 1 draw % FLAGS) (leg_table (after 1 draw) TRIAL_PLACES (TRIAL_PLACES + 1)) (range_with_len 1 FARE_MEMBERS)) places
