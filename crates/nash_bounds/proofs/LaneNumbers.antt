-- What is known of lanes.
use Rattle.std.proofs.Common.{◌≡◌, ◌≢◌, ℕ, ◌+◌, ◌*◌, ◌-◌, ◌<◌, ◌≤◌, cond, eqb, true, false, List, [], ◌∷◌, ◌++◌, length, map, fold, max, sum, All, length-drop, slice_index, get_or, set, arith, refl, sym, ap, ◌∙◌, subst, inl, inr}
use Rattle.std.specs.List.{range_with_len, sum_by, AllZip}
use Rattle.std.proofs.Math.ListN.{length-set}
use Rattle.std.proofs.lemmas.List.{get_or-set_same, get_or-set_other, get_or_past, get_or_append_left}
use Rattle.std.proofs.Math.Seq.{get_or-append_seam}
use Rattle.nash_bounds.specs.declared.table.PointRow.{PointRow}
use Rattle.nash_bounds.specs.declared.prefix.Prefix.{Prefix}
use Rattle.nash_bounds.specs.Tables.{IsPointRow}
use Rattle.std.proofs.lemmas.Bool.{cases_eq, cases_lt}
use Rattle.std.proofs.lemmas.Bool.Decides.{nat_tests}
use Rattle.std.proofs.lemmas.List.FromFn.{get_or-map-range_with_len, length-range_with_len}
use Rattle.std.proofs.lemmas.List.Sums.{sum_by-cons}
use Rattle.bid_rules.specs.declared.goods.GoodsCase.{GoodsCase}
use Rattle.bid_rules.specs.Goods.{IsValidGoodsCase, player_count, points, greatest_points, order_of, pair_of, utilities}
use Rattle.bid_rules.specs.Pairs.{nash_welfare, positives, product}
use Rattle.bid_rules.specs.declared.pair.Pair.{Pair}
use Rattle.nash_bounds.specs.Levels.{bound_of}
use Rattle.nash_bounds.specs.Reach.{IsSpan}
use Rattle.nash_bounds.proofs.LaneEntries.{zeros, by_room, bound_filled_up, positives_filled_up, product_filled_up, sum_filled_up}
use Rattle.nash_bounds.specs.declared.lanes.Lanes.{Lanes}
use Rattle.nash_bounds.specs.declared.lanes.LaneRow.{LaneRow}
use Rattle.nash_bounds.specs.declared.lanes.LaneTable.{LaneTable}
use Rattle.nash_bounds.specs.Prefixes.{free_goods, top_of, highest, prefix_bound, IsPrefix}
use Rattle.nash_bounds.specs.Lanes.{by_lane, has, may_have, next_good, IsLanes, IsFork, IsLaneRow, IsLaneTable, HasFreeGood}
use Rattle.nash_bounds.proofs.PlayerPoints.{points_le, map_is, length_mapped, AllZip_map, Row}
use Rattle.nash_bounds.proofs.LongerPrefixes.{utility_within, within_whole, free_next, low_next, top_next, each_player}
use Rattle.nash_bounds.proofs.NextEntries.{sum_within}
use Rattle.nash_bounds.proofs.SortedGoods.{order_length, range_all}
use Rattle.split_lemmas.proofs.ListPlaces.{get_le_sum}
use Rattle.std.proofs.lemmas.List.Elements.{AllZip-get_or, All-head, All-tail, All-map, All-weaker}
use Rattle.bid_rules.specs.declared.limits.TheConstants.{MEMBER_ROOM, WHOLE_POINTS}
use Rattle.nash_bounds.specs.declared.limits.TheConstants.{LANES, MOST_TOP}

-- the number of a lane, by its place from 0
pub lane_at : (f : ℕ → ℕ) (xs : List ℕ) (k : ℕ) → xs ≡ by_lane f → k < LANES → get_or xs k 0 ≡ f (k + 1)
lane_at f xs k is l = ap (λ ys. get_or ys k 0) is ∙ get_or-map-range_with_len f 1 LANES k (k + 1) 0 l (omega arith)

-- the number of a lane, by its player from 1
pub lane_of : (f : ℕ → ℕ) (xs : List ℕ) (owner : ℕ) → xs ≡ by_lane f → 1 ≤ owner → owner ≤ LANES → get_or xs (owner - 1) 0 ≡ f owner
lane_of f xs owner is a b = let e : owner - 1 + 1 ≡ owner = omega arith in subst (λ p. get_or xs (owner - 1) 0 ≡ f p) e (lane_at f xs (owner - 1) is (omega arith))

-- there is one number a lane
pub lane_length : (f : ℕ → ℕ) (xs : List ℕ) → xs ≡ by_lane f → length xs ≡ LANES
lane_length f xs is = ap length is

-- numbers that are those of each lane are the lanes
pub by_each : (f : ℕ → ℕ) (xs : List ℕ) → length xs ≡ LANES → ((k : ℕ) → k < LANES → get_or xs k 0 ≡ f (k + 1)) → xs ≡ by_lane f
by_each f xs long each =
    sym (subst (λ n. map f (range_with_len 1 n) ≡ xs) long (map_is f xs 1 (λ k l. let e : 1 + k ≡ k + 1 = omega arith in ap f e ∙ sym (each k (omega arith)))))

-- one lane is written
pub one_lane : (f g : ℕ → ℕ) (xs : List ℕ) (owner v : ℕ) → xs ≡ by_lane f → 1 ≤ owner → owner ≤ LANES → v ≡ g owner → ((p : ℕ) → p ≢ owner → g p ≡ f p) → set xs (owner - 1) v ≡ by_lane g
one_lane f g xs owner v is a b own others =
    let long = lane_length f xs is in
    by_each g (set xs (owner - 1) v) (length-set xs (owner - 1) v ∙ long) (λ k l.
    elim (cases_eq k (owner - 1)) [
      | inl e ↦ (
          let at : k + 1 ≡ owner = omega arith in
          let here : get_or (set xs (owner - 1) v) (owner - 1) 0 ≡ v = get_or-set_same xs (owner - 1) v 0 (omega arith) in
          ap (λ n. get_or (set xs (owner - 1) v) n 0) e ∙ here ∙ own ∙ ap g (sym at))
      | inr ne ↦ (
          let other : get_or (set xs (owner - 1) v) k 0 ≡ get_or xs k 0 = get_or-set_other xs (owner - 1) k v 0 ne in
          other ∙ lane_at f xs k is l ∙ sym (others (k + 1) (omega arith)))
    ])

-- a lane without a player has no points
none_points : (case : GoodsCase) (p good : ℕ) → player_count case < p → points case p good ≡ 0
none_points case p good l =
    let none : Row = record { items = [] } in
    let e : get_or case.values.items (p - 1) none ≡ none = get_or_past case.values.items (p - 1) none (omega arith) in
    ap (λ (row : Row). slice_index row.items (good - 1)) e

-- a lane without a player has no points for any goods
no_points_sum : (case : GoodsCase) (p : ℕ) (goods : List ℕ) → player_count case < p → sum_by (points case p) goods ≡ 0
no_points_sum case p [] l = refl
no_points_sum case p (good ∷ goods) l =
    let e : sum_by (points case p) (good ∷ goods) ≡ points case p good + sum_by (points case p) goods = sum_by-cons (points case p) good goods in
    let one = none_points case p good l in
    let rest = no_points_sum case p goods l in
    omega arith

-- no lane may have more than all points of a player
pub may_small : (case : GoodsCase) (owners : List ℕ) (p : ℕ) → IsValidGoodsCase case → 1 ≤ p → may_have case owners p ≤ WHOLE_POINTS
may_small case owners p valid a =
    elim (cases_lt (player_count case) p) [
      | inl l ↦ (let w = utility_within case p (order_of case) owners in let n = no_points_sum case p (order_of case) l in omega arith)
      | inr l ↦ within_whole case owners p valid a l
    ]

-- the next good is among those that a player may have
pub next_within : (case : GoodsCase) (owners : List ℕ) (p : ℕ) → length owners < case.facts.goods → points case p (next_good case owners) ≤ may_have case owners p
next_within case owners p l = let e = free_next (points case p) case owners 1 l in omega arith

-- the greatest points for the next good are within the top
pub top_within : (case : GoodsCase) (owners : List ℕ) → length owners < case.facts.goods → greatest_points case (next_good case owners) ≤ top_of case owners
top_within case owners l = let e = free_next (greatest_points case) case owners 1 l in omega arith

-- what the next good's owner changes
pub has_next : (case : GoodsCase) (owners : List ℕ) (owner : ℕ) → length owners < case.facts.goods
    → has case (owners ++ owner ∷ []) owner ≡ has case owners owner + points case owner (next_good case owners)
has_next case owners owner l =
    let e = low_next case owners owner owner l in
    let t : eqb owner owner ≡ true = grind (arith, nat_tests) in
    e ∙ ap (λ b. has case owners owner + cond b (points case owner (next_good case owners)) 0) t

-- one more owner changes what no other player has
pub has_same : (case : GoodsCase) (owners : List ℕ) (owner p : ℕ) → length owners < case.facts.goods → p ≢ owner → has case (owners ++ owner ∷ []) p ≡ has case owners p
has_same case owners owner p l ne =
    let e = low_next case owners owner p l in
    let t : eqb owner p ≡ false = grind (arith, nat_tests) in
    let f : has case owners p + cond (eqb owner p) (points case p (next_good case owners)) 0 ≡ has case owners p + 0 = ap (λ b. has case owners p + cond b (points case p (next_good case owners)) 0) t in
    omega arith

-- what a player may have without the next good
abbrev pub forked : GoodsCase → List ℕ → ℕ → ℕ
forked case owners p = may_have case owners p - points case p (next_good case owners)

-- the owner of the next good may have it again
pub may_next : (case : GoodsCase) (owners : List ℕ) (owner : ℕ) → length owners < case.facts.goods
    → may_have case (owners ++ owner ∷ []) owner ≡ forked case owners owner + points case owner (next_good case owners)
may_next case owners owner l =
    let e = has_next case owners owner l in
    let f = free_next (points case owner) case owners owner l in
    omega arith

-- the others may have what they may have without the next good
pub may_same : (case : GoodsCase) (owners : List ℕ) (owner p : ℕ) → length owners < case.facts.goods → p ≢ owner → may_have case (owners ++ owner ∷ []) p ≡ forked case owners p
may_same case owners owner p l ne =
    let e = has_same case owners owner p l ne in
    let f = free_next (points case p) case owners owner l in
    omega arith

-- what all may have is small
max_small : (xs : List ℕ) (a : ℕ) → a ≤ WHOLE_POINTS → All (λ x. x ≤ WHOLE_POINTS) xs → fold max a xs ≤ WHOLE_POINTS
max_small [] a l h = l
max_small (x ∷ xs) a l h =
    let P : ℕ → Type 0 = λ v. v ≤ WHOLE_POINTS in
    let one : x ≤ WHOLE_POINTS = All-head P x xs h in
    max_small xs (max a x) (omega arith) (All-tail P x xs h)

-- the greatest points for a good are at most all points of a player
greatest_small : (case : GoodsCase) (good : ℕ) → IsValidGoodsCase case → greatest_points case good ≤ WHOLE_POINTS
greatest_small case good valid =
    max_small (map (λ (row : Row). slice_index row.items (good - 1)) case.values.items) 0 (omega arith)
    (All-map (λ x. x ≤ WHOLE_POINTS) (λ (row : Row). slice_index row.items (good - 1)) case.values.items
    (All-weaker (λ (row : Row). sum row.items ≡ WHOLE_POINTS) (λ (row : Row). slice_index row.items (good - 1) ≤ WHOLE_POINTS) (λ (row : Row) e. let l = get_le_sum row.items (good - 1) in omega arith) case.values.items valid.sums))

-- the greatest points for some goods sum to at most all points of a player for each good
greatest_sum : (case : GoodsCase) (goods : List ℕ) → IsValidGoodsCase case → sum_by (greatest_points case) goods ≤ WHOLE_POINTS * length goods
greatest_sum case [] valid = omega arith
greatest_sum case (good ∷ goods) valid =
    let e : sum_by (greatest_points case) (good ∷ goods) ≡ greatest_points case good + sum_by (greatest_points case) goods = sum_by-cons (greatest_points case) good goods in
    let one = greatest_small case good valid in
    let rest = greatest_sum case goods valid in
    omega arith

-- the top is at most the most that it may be
pub top_small : (case : GoodsCase) (owners : List ℕ) → IsValidGoodsCase case → player_count case ≤ MEMBER_ROOM → top_of case owners ≤ MOST_TOP
top_small case owners valid few =
    let us = utilities case owners in
    let small : All (λ u. u ≤ WHOLE_POINTS) us = All-map (λ u. u ≤ WHOLE_POINTS) (has case owners) (range_with_len 1 (player_count case))
    (each_player (λ p. has case owners p ≤ WHOLE_POINTS) case (λ p l h. let w = within_whole case owners p valid l h in omega arith)) in
    let long : length us ≡ player_count case = length_mapped (has case owners) (range_with_len 1 (player_count case)) ∙ length-range_with_len 1 (player_count case) in
    let total = sum_within us small in
    let goods = greatest_sum case (free_goods case owners) valid in
    let most = valid.facts.counts in
    let order : length (order_of case) ≡ case.facts.goods = order_length case in
    let rest : length (free_goods case owners) ≡ length (order_of case) - length owners = length-drop (length owners) (order_of case) in
    let h = most.3 in
    omega arith

-- the row of the next good
pub row_of : (case : GoodsCase) (table : LaneTable) (owners : List ℕ) (rows : List LaneRow) (other : LaneRow) → IsLaneTable case table → HasFreeGood case owners → rows ≡ table.rows.items
    → IsLaneRow case (next_good case owners) (get_or rows (length owners) other)
row_of case table owners rows other is free same =
    subst (λ (xs : List LaneRow). IsLaneRow case (next_good case owners) (get_or xs (length owners) other)) (sym same) (is.each (length owners) other free.short)

-- a row gives the points of each lane for the next good
pub row_points : (case : GoodsCase) (owners : List ℕ) (row : LaneRow) (k : ℕ) → IsLaneRow case (next_good case owners) row → k < LANES → get_or row.points k 0 ≡ points case (k + 1) (next_good case owners)
row_points case owners row k is l = lane_at (λ player. points case player (next_good case owners)) row.points k is.is_points l

-- a row gives the owner's points for the next good
pub row_owner : (case : GoodsCase) (owners : List ℕ) (row : LaneRow) (owner : ℕ) → IsLaneRow case (next_good case owners) row → 1 ≤ owner → owner ≤ LANES
    → get_or row.points (owner - 1) 0 ≡ points case owner (next_good case owners)
row_owner case owners row owner is a b = lane_of (λ player. points case player (next_good case owners)) row.points owner is.is_points a b

-- the lanes without the next good
pub fork_is : (case : GoodsCase) (owners : List ℕ) (row : LaneRow) (lanes : Lanes) (high : List ℕ) → IsLaneRow case (next_good case owners) row → IsLanes case owners lanes → length high ≡ LANES
    → ((k : ℕ) → k < LANES → get_or high k 0 ≡ get_or lanes.high k 0 - get_or row.points k 0)
    → IsFork case owners record { low = lanes.low; high = high; top = lanes.top - row.greatest }
fork_is case owners row lanes high is lanes_are long each = record {
  is_low = lanes_are.is_low;
  is_high = by_each (forked case owners) high long (λ k l. let a = row_points case owners row k is l in let b = lane_at (may_have case owners) lanes.high k lanes_are.is_high l in let e = each k l in omega arith);
  is_top = (let a = is.is_greatest in let b = lanes_are.is_top in omega arith);
}

-- and with it again
pub join_is : (case : GoodsCase) (owners : List ℕ) (row : LaneRow) (lanes : Lanes) (high : List ℕ) → IsLaneRow case (next_good case owners) row → HasFreeGood case owners → IsFork case owners lanes → length high ≡ LANES
    → ((k : ℕ) → k < LANES → get_or high k 0 ≡ get_or lanes.high k 0 + get_or row.points k 0)
    → IsLanes case owners record { low = lanes.low; high = high; top = lanes.top + row.greatest }
join_is case owners row lanes high is free lanes_are long each = record {
  is_low = lanes_are.is_low;
  is_high = by_each (may_have case owners) high long (λ k l. let a = row_points case owners row k is l in let b = lane_at (forked case owners) lanes.high k lanes_are.is_high l in let e = each k l in
      let w = next_within case owners (k + 1) free.short in omega arith);
  is_top = (let a = is.is_greatest in let b = lanes_are.is_top in let w = top_within case owners free.short in omega arith);
}

-- lanes to which the next good is given are those of the longer prefix
pub give_is : (case : GoodsCase) (owners : List ℕ) (owner given : ℕ) (lanes : Lanes) → HasFreeGood case owners → 1 ≤ owner → owner ≤ player_count case → owner ≤ LANES → given ≡ points case owner (next_good case owners)
    → IsFork case owners lanes
    → IsLanes case (owners ++ owner ∷ []) record { low = set lanes.low (owner - 1) (get_or lanes.low (owner - 1) 0 + given); high = set lanes.high (owner - 1) (get_or lanes.high (owner - 1) 0 + given); top = lanes.top + given }
give_is case owners owner given lanes free a few b is lanes_are = record {
  is_low = one_lane (has case owners) (has case (owners ++ owner ∷ [])) lanes.low owner (get_or lanes.low (owner - 1) 0 + given) lanes_are.is_low a b
      (let l = lane_of (has case owners) lanes.low owner lanes_are.is_low a b in let e = has_next case owners owner free.short in omega arith) (λ p ne. has_same case owners owner p free.short ne);
  is_high = one_lane (forked case owners) (may_have case (owners ++ owner ∷ [])) lanes.high owner (get_or lanes.high (owner - 1) 0 + given) lanes_are.is_high a b
      (let l = lane_of (forked case owners) lanes.high owner lanes_are.is_high a b in let e = may_next case owners owner free.short in omega arith) (λ p ne. may_same case owners owner p free.short ne);
  is_top = (let t = lanes_are.is_top in let e = top_next case owners owner (top_of case owners) free.short a few refl in omega arith);
}

-- lanes from which it is taken are those without it
pub take_is : (case : GoodsCase) (owners : List ℕ) (owner given : ℕ) (lanes : Lanes) → HasFreeGood case owners → 1 ≤ owner → owner ≤ player_count case → owner ≤ LANES → given ≡ points case owner (next_good case owners)
    → IsLanes case (owners ++ owner ∷ []) lanes
    → IsFork case owners record { low = set lanes.low (owner - 1) (get_or lanes.low (owner - 1) 0 - given); high = set lanes.high (owner - 1) (get_or lanes.high (owner - 1) 0 - given); top = lanes.top - given }
take_is case owners owner given lanes free a few b is lanes_are = record {
  is_low = one_lane (has case (owners ++ owner ∷ [])) (has case owners) lanes.low owner (get_or lanes.low (owner - 1) 0 - given) lanes_are.is_low a b
      (let l = lane_of (has case (owners ++ owner ∷ [])) lanes.low owner lanes_are.is_low a b in let e = has_next case owners owner free.short in omega arith) (λ p ne. sym (has_same case owners owner p free.short ne));
  is_high = one_lane (may_have case (owners ++ owner ∷ [])) (forked case owners) lanes.high owner (get_or lanes.high (owner - 1) 0 - given) lanes_are.is_high a b
      (let l = lane_of (may_have case (owners ++ owner ∷ [])) lanes.high owner lanes_are.is_high a b in let e = may_next case owners owner free.short in omega arith) (λ p ne. sym (may_same case owners owner p free.short ne));
  is_top = (let t = lanes_are.is_top in let e = top_next case owners owner (top_of case owners) free.short a few refl in omega arith);
}

-- no lane's points for the next good are above what the lane may have
pub fork_fits : (case : GoodsCase) (owners : List ℕ) (row : LaneRow) (lanes : Lanes) (k : ℕ) → IsLaneRow case (next_good case owners) row → HasFreeGood case owners → IsLanes case owners lanes → k < LANES
    → get_or row.points k 0 ≤ get_or lanes.high k 0
fork_fits case owners row lanes k is free lanes_are l =
    let a = row_points case owners row k is l in
    let b = lane_at (may_have case owners) lanes.high k lanes_are.is_high l in
    let w = next_within case owners (k + 1) free.short in
    omega arith

-- nor are the greatest of them above the top
pub fork_top : (case : GoodsCase) (owners : List ℕ) (row : LaneRow) (lanes : Lanes) → IsLaneRow case (next_good case owners) row → HasFreeGood case owners → IsLanes case owners lanes → row.greatest ≤ lanes.top
fork_top case owners row lanes is free lanes_are =
    let g = is.is_greatest in
    let t = lanes_are.is_top in
    let w = top_within case owners free.short in
    omega arith

-- what a lane may have with the next good fits its type
pub join_fits : (case : GoodsCase) (owners : List ℕ) (row : LaneRow) (lanes : Lanes) (k : ℕ) → IsLaneRow case (next_good case owners) row → HasFreeGood case owners → IsFork case owners lanes → k < LANES
    → get_or lanes.high k 0 + get_or row.points k 0 < 65536
join_fits case owners row lanes k is free lanes_are l =
    let a = row_points case owners row k is l in
    let b = lane_at (forked case owners) lanes.high k lanes_are.is_high l in
    let w = next_within case owners (k + 1) free.short in
    let s = may_small case owners (k + 1) free.valid (omega arith) in
    omega arith

-- the top with the next good is at most the most that it may be
pub join_top : (case : GoodsCase) (owners : List ℕ) (row : LaneRow) (lanes : Lanes) → IsLaneRow case (next_good case owners) row → HasFreeGood case owners → player_count case ≤ MEMBER_ROOM → IsFork case owners lanes
    → lanes.top + row.greatest ≤ MOST_TOP
join_top case owners row lanes is free few lanes_are =
    let g = is.is_greatest in
    let t = lanes_are.is_top in
    let w = top_within case owners free.short in
    let s = top_small case owners free.valid few in
    omega arith

-- a lane without a player has nothing
pub none_may : (case : GoodsCase) (owners : List ℕ) (p : ℕ) → player_count case < p → may_have case owners p ≡ 0
none_may case owners p l = let w = utility_within case p (order_of case) owners in let n = no_points_sum case p (order_of case) l in omega arith

-- a lane without a player has nothing
pub none_has : (case : GoodsCase) (owners : List ℕ) (p : ℕ) → player_count case < p → has case owners p ≡ 0
none_has case owners p l = let n = none_may case owners p l in omega arith

-- the lanes' lows are the utilities, filled up with zeros
low_filled_up : (case : GoodsCase) (owners xs : List ℕ) → player_count case ≤ MEMBER_ROOM → xs ≡ by_lane (has case owners) → xs ≡ utilities case owners ++ zeros (LANES - player_count case)
low_filled_up case owners xs few is = is ∙ by_room (has case owners) (player_count case) (omega arith) (λ p l. none_has case owners p l)

-- the lanes' highs are what the players may have, filled up with zeros
high_filled_up : (case : GoodsCase) (owners xs : List ℕ) → player_count case ≤ MEMBER_ROOM → xs ≡ by_lane (may_have case owners) → xs ≡ highest case owners ++ zeros (LANES - player_count case)
high_filled_up case owners xs few is = is ∙ by_room (may_have case owners) (player_count case) (omega arith) (λ p l. none_may case owners p l)

-- the lanes' lows sum to the utilities
low_sum : (case : GoodsCase) (owners xs : List ℕ) → player_count case ≤ MEMBER_ROOM → xs ≡ by_lane (has case owners) → sum xs ≡ sum (utilities case owners)
low_sum case owners xs few is = ap sum (low_filled_up case owners xs few is) ∙ sum_filled_up (LANES - player_count case) (utilities case owners)

-- what holds of each number from 1 holds of each lane
each_lane : (P : ℕ → Type 0) → ((p : ℕ) → 1 ≤ p → P p) → All P (range_with_len 1 LANES)
each_lane P h = All-weaker (λ k. (1 ≤ k) × (k < 1 + LANES)) P (λ k r. h k r.0) (range_with_len 1 LANES) (range_all 1 LANES)

-- lanes by two functions in order, with highs of at most all points of a player and lows within top, are a span
span : (f g : ℕ → ℕ) (lanes : Lanes) → lanes.low ≡ by_lane f → lanes.high ≡ by_lane g → ((p : ℕ) → 1 ≤ p → f p ≤ g p) → ((p : ℕ) → 1 ≤ p → g p ≤ WHOLE_POINTS) → ((p : ℕ) → MEMBER_ROOM < p → g p ≡ 0) → sum lanes.low ≤ lanes.top → IsSpan lanes
span f g lanes low high le small none within = record {
  lows = lane_length f lanes.low low;
  highs = lane_length g lanes.high high;
  in_order = subst (λ xs. AllZip ◌≤◌ xs lanes.high) (sym low) (subst (λ ys. AllZip ◌≤◌ (by_lane f) ys) (sym high) (AllZip_map f g (range_with_len 1 LANES) (each_lane (λ p. f p ≤ g p) le)));
  small = subst (All (λ most. most ≤ WHOLE_POINTS)) (sym high) (All-map (λ most. most ≤ WHOLE_POINTS) g (range_with_len 1 LANES) (each_lane (λ p. g p ≤ WHOLE_POINTS) small));
  rest = (λ k l. elim (cases_lt k LANES) [
    | inl h ↦ lane_at g lanes.high k high h ∙ none (k + 1) (omega arith)
    | inr h ↦ get_or_past lanes.high k 0 (let e = lane_length g lanes.high high in omega arith)
  ]);
  within = within;
}

-- the lanes of a prefix are a span
pub span_of_lanes : (case : GoodsCase) (owners : List ℕ) (lanes : Lanes) → IsValidGoodsCase case → player_count case ≤ MEMBER_ROOM → IsLanes case owners lanes → IsSpan lanes
span_of_lanes case owners lanes valid few is =
    span (has case owners) (may_have case owners) lanes is.is_low is.is_high (λ p _. omega arith) (λ p a. may_small case owners p valid a) (λ p l. none_may case owners p (omega arith))
    (let s = low_sum case owners lanes.low few is.is_low in let t = is.is_top in omega arith)

-- the lanes without the next good are a span
pub span_of_fork : (case : GoodsCase) (owners : List ℕ) (lanes : Lanes) → HasFreeGood case owners → player_count case ≤ MEMBER_ROOM → IsFork case owners lanes → IsSpan lanes
span_of_fork case owners lanes free few is =
    span (has case owners) (forked case owners) lanes is.is_low is.is_high (λ p _. let e = free_next (points case p) case owners 1 free.short in omega arith)
    (λ p a. let s = may_small case owners p free.valid a in omega arith) (λ p l. let n = none_may case owners p (omega arith) in omega arith)
    (let s = low_sum case owners lanes.low few is.is_low in let t = is.is_top in let e = free_next (greatest_points case) case owners 1 free.short in omega arith)

-- the bound by lanes is the bound
pub lanes_bound : (case : GoodsCase) (owners : List ℕ) (lanes : Lanes) → player_count case ≤ MEMBER_ROOM → IsLanes case owners lanes → bound_of lanes.low lanes.high lanes.top ≡ prefix_bound case owners
lanes_bound case owners lanes few is =
    let long : length (utilities case owners) ≡ length (highest case owners) = length_mapped (has case owners) (range_with_len 1 (player_count case)) ∙ sym (length_mapped (may_have case owners) (range_with_len 1 (player_count case))) in
    ap (λ xs. bound_of xs lanes.high lanes.top) (low_filled_up case owners lanes.low few is.is_low)
    ∙ ap (λ xs. bound_of (utilities case owners ++ zeros (LANES - player_count case)) xs lanes.top) (high_filled_up case owners lanes.high few is.is_high)
    ∙ ap (bound_of (utilities case owners ++ zeros (LANES - player_count case)) (highest case owners ++ zeros (LANES - player_count case))) is.is_top
    ∙ bound_filled_up (LANES - player_count case) (utilities case owners) (highest case owners) (top_of case owners) long

-- a list by players, one a lane
pub laned_is : (f : ℕ → ℕ) (n : ℕ) (xs ys : List ℕ) → n ≤ MEMBER_ROOM → ((p : ℕ) → n < p → f p ≡ 0) → xs ≡ map f (range_with_len 1 n) → length ys ≡ LANES → ((k : ℕ) → k < LANES → get_or ys k 0 ≡ get_or xs k 0) → ys ≡ by_lane f
laned_is f n xs ys few none is long each =
    by_each f ys long (λ k l. each k l ∙ ap (λ zs. get_or zs k 0) is ∙ at k)
  where
    at : (k : ℕ) → get_or (map f (range_with_len 1 n)) k 0 ≡ f (k + 1)
    at k = elim (cases_lt k n) [
      | inl l ↦ get_or-map-range_with_len f 1 n k (k + 1) 0 l (omega arith)
      | inr l ↦ (let past : get_or (map f (range_with_len 1 n)) k 0 ≡ 0 = get_or_past (map f (range_with_len 1 n)) k 0 (let e = length_mapped f (range_with_len 1 n) in let r = length-range_with_len 1 n in omega arith) in
          past ∙ sym (none (k + 1) (omega arith)))
    ]

-- no points for a good are above all points of a player
pub row_small : (case : GoodsCase) (good : ℕ) (row : PointRow) (given : List ℕ) → IsValidGoodsCase case → IsPointRow case good row → given ≡ row.points.items → All (λ number. number ≤ WHOLE_POINTS) given
row_small case good row given valid is same =
    subst (All (λ number. number ≤ WHOLE_POINTS)) (sym (same ∙ is.is_points)) (All-map (λ number. number ≤ WHOLE_POINTS) (λ p. points case p good) (range_with_len 1 (player_count case))
    (each_player (λ p. points case p good ≤ WHOLE_POINTS) case (λ p l h. let a = points_le case p good l h in let g = greatest_small case good valid in omega arith)))

-- nor is what a player has
pub low_small : (case : GoodsCase) (prefix : Prefix) (given : List ℕ) → IsValidGoodsCase case → IsPrefix case prefix → given ≡ prefix.low.items → All (λ number. number ≤ WHOLE_POINTS) given
low_small case prefix given valid is same =
    subst (All (λ number. number ≤ WHOLE_POINTS)) (sym (same ∙ is.is_low)) (All-map (λ number. number ≤ WHOLE_POINTS) (has case prefix.owners.items) (range_with_len 1 (player_count case))
    (each_player (λ p. has case prefix.owners.items p ≤ WHOLE_POINTS) case (λ p l h. let w = may_small case prefix.owners.items p valid l in omega arith)))

-- nor what a player may have
pub high_small : (case : GoodsCase) (prefix : Prefix) (given : List ℕ) → IsValidGoodsCase case → IsPrefix case prefix → given ≡ prefix.high.items → All (λ number. number ≤ WHOLE_POINTS) given
high_small case prefix given valid is same =
    subst (All (λ number. number ≤ WHOLE_POINTS)) (sym (same ∙ is.is_high)) (All-map (λ number. number ≤ WHOLE_POINTS) (may_have case prefix.owners.items) (range_with_len 1 (player_count case))
    (each_player (λ p. may_have case prefix.owners.items p ≤ WHOLE_POINTS) case (λ p l h. may_small case prefix.owners.items p valid l)))

-- a row of points in lanes is the row by lane
pub lane_row_is : (case : GoodsCase) (good : ℕ) (row : PointRow) (given ys : List ℕ) → player_count case ≤ MEMBER_ROOM → IsPointRow case good row → given ≡ row.points.items → length ys ≡ LANES
    → ((k : ℕ) → k < LANES → get_or ys k 0 ≡ get_or given k 0) → IsLaneRow case good record { points = ys; greatest = row.greatest }
lane_row_is case good row given ys few is same long each = record {
  is_points = laned_is (λ p. points case p good) (player_count case) given ys few (λ p l. none_points case p good l) (same ∙ is.is_points) long each;
  is_greatest = is.is_greatest;
}

-- a prefix's numbers in lanes are its lanes
pub lanes_are : (case : GoodsCase) (prefix : Prefix) (lows highs xs ys : List ℕ) → player_count case ≤ MEMBER_ROOM → IsPrefix case prefix → lows ≡ prefix.low.items → highs ≡ prefix.high.items
    → length xs ≡ LANES → ((k : ℕ) → k < LANES → get_or xs k 0 ≡ get_or lows k 0) → length ys ≡ LANES → ((k : ℕ) → k < LANES → get_or ys k 0 ≡ get_or highs k 0)
    → IsLanes case prefix.owners.items record { low = xs; high = ys; top = prefix.top }
lanes_are case prefix lows highs xs ys few is low high lx ex ly ey = record {
  is_low = laned_is (has case prefix.owners.items) (player_count case) lows xs few (λ p l. none_has case prefix.owners.items p l) (low ∙ is.is_low) lx ex;
  is_high = laned_is (may_have case prefix.owners.items) (player_count case) highs ys few (λ p l. none_may case prefix.owners.items p l) (high ∙ is.is_high) ly ey;
  is_top = is.is_top;
}

-- a table with one more row has the rows of one more place
pub lane_row_more : (case : GoodsCase) (rows new : List LaneRow) (row : LaneRow) (k : ℕ) → length rows ≡ k → new ≡ rows ++ row ∷ [] → IsLaneRow case (slice_index (order_of case) k) row
    → ((place : ℕ) (other : LaneRow) → place < k → IsLaneRow case (slice_index (order_of case) place) (get_or rows place other))
    → (place : ℕ) (other : LaneRow) → place < k + 1 → IsLaneRow case (slice_index (order_of case) place) (get_or new place other)
lane_row_more case rows new row k long is last before place other l =
    elim (cases_eq place k) [
      | inl e ↦ (
          let at : get_or new place other ≡ row = ap (λ n. get_or new n other) (e ∙ sym long) ∙ ap (λ xs. get_or xs (length rows) other) is ∙ get_or-append_seam rows row [] other in
          subst (λ (r : LaneRow). IsLaneRow case (slice_index (order_of case) place) r) (sym at)
          (subst (λ n. IsLaneRow case (slice_index (order_of case) n) row) (sym e) last))
      | inr ne ↦ (
          let at : get_or new place other ≡ get_or rows place other = ap (λ xs. get_or xs place other) is ∙ get_or_append_left rows (row ∷ []) other place (omega arith) in
          subst (λ (r : LaneRow). IsLaneRow case (slice_index (order_of case) place) r) (sym at) (before place other (omega arith)))
    ]

-- what a lane beyond the room for players has is nothing
pub low_rest : (lanes : Lanes) → IsSpan lanes → (k : ℕ) → MEMBER_ROOM ≤ k → get_or lanes.low k 0 ≡ 0
low_rest lanes span k l =
    elim (cases_lt k LANES) [
      | inl h ↦ (let a = span.lows in let b = span.rest k l in let o = AllZip-get_or ◌≤◌ lanes.low lanes.high k 0 0 span.in_order (omega arith) in omega arith)
      | inr h ↦ get_or_past lanes.low k 0 (let a = span.lows in omega arith)
    ]

-- the pair of the lanes' lows is that of the owners
pub low_pair : (case : GoodsCase) (owners : List ℕ) (lanes : Lanes) → player_count case ≤ MEMBER_ROOM → IsLanes case owners lanes → nash_welfare lanes.low ≡ pair_of case owners
low_pair case owners lanes few is =
    let n = LANES - player_count case in
    ap nash_welfare (low_filled_up case owners lanes.low few is.is_low)
    ∙ ap (λ m. let q : Pair = record { count = m; product = product (utilities case owners ++ zeros n) } in q) (positives_filled_up n (utilities case owners))
    ∙ ap (λ m. let q : Pair = record { count = positives (utilities case owners); product = m } in q) (product_filled_up n (utilities case owners))
