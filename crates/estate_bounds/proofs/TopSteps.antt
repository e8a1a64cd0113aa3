-- Weighted sums and tops, one term more.
use Rattle.std.proofs.Common.{◌≡◌, ℕ, suc, zero, ◌+◌, ◌*◌, ◌-◌, ◌<◌, ◌≤◌, max, List, [], ◌∷◌, ◌++◌, drop, get_or, length, map, fold, slice_index, arith, refl, sym, ap, ◌∙◌, subst}
use Rattle.std.specs.List.{range_with_len, sum_by}
use Rattle.std.proofs.lemmas.List.FromFn.{get_or-map-range_with_len, map-range_with_len_more}
use Rattle.bid_rules.specs.declared.goods.GoodsCase.{GoodsCase}
use Rattle.bid_rules.specs.Goods.{player_count, order_of}
use Rattle.nash_bounds.specs.declared.lanes.LaneRow.{LaneRow}
use Rattle.nash_bounds.specs.declared.lanes.LaneTable.{LaneTable}
use Rattle.nash_bounds.specs.Lanes.{IsLaneRow, IsLaneTable, by_lane}
use Rattle.nash_bounds.specs.declared.limits.TheConstants.{LANES}
use Rattle.bid_rules.specs.declared.limits.TheConstants.{MEMBER_ROOM}
use Rattle.split_lemmas.proofs.RangeSteps.{sum_more as range_sum_more}
use Rattle.estate_bounds.proofs.NextOwners.{order_length}
use Rattle.std.proofs.lemmas.List.Sums.{sum_by-drop_more}
use Rattle.estate_bounds.specs.Weighted.{weight}

-- a player's weight by place
pub weight_at : (weights : List ℕ) (k : ℕ) → weight weights (k + 1) ≡ get_or weights k 0
weight_at weights k = let e : k + 1 - 1 ≡ k = omega arith in ap (λ n. get_or weights n 0) e

-- a number by lane
pub by_lane_at : (f : ℕ → ℕ) (case : GoodsCase) (xs : List ℕ) (k : ℕ) → xs ≡ by_lane f → player_count case ≤ MEMBER_ROOM → k < player_count case → get_or xs k 0 ≡ f (k + 1)
by_lane_at f case xs k is few l = ap (λ ys. get_or ys k 0) is ∙ get_or-map-range_with_len f 1 LANES k (k + 1) 0 (omega arith) (omega arith)

-- a term of a sum or of a greatest
pub term_at : (f : ℕ → ℕ) (case : GoodsCase) (weights xs : List ℕ) (k v : ℕ) → xs ≡ by_lane f → player_count case ≤ MEMBER_ROOM → k < player_count case → v ≡ get_or weights k 0 * get_or xs k 0
    → v ≡ weight weights (k + 1) * f (k + 1)
term_at f case weights xs k v is few l value =
    value ∙ ap (λ n. get_or weights k 0 * n) (by_lane_at f case xs k is few l) ∙ ap (λ n. n * f (k + 1)) (sym (weight_at weights k))

-- one more term of the sum
pub sum_more : (f : ℕ → ℕ) (k v sum new : ℕ) → sum ≡ sum_by f (range_with_len 1 k) → v ≡ f (k + 1) → new ≡ sum + v → new ≡ sum_by f (range_with_len 1 (k + 1))
sum_more f k v sum new before value is = let e : 1 + k ≡ k + 1 = omega arith in let m = range_sum_more f 1 k in let n = ap f e in omega arith

-- the greatest of numbers and one more
fold_max_more : (a x : ℕ) (xs : List ℕ) → fold max a (xs ++ x ∷ []) ≡ max (fold max a xs) x
fold_max_more a x [] = refl
fold_max_more a x (y ∷ ys) = fold_max_more (max a y) x ys

-- one more term of the greatest
pub most_more : (f : ℕ → ℕ) (k v most new : ℕ) → most ≡ fold max 0 (map f (range_with_len 1 k)) → v ≡ f (k + 1) → new ≡ max v most → new ≡ fold max 0 (map f (range_with_len 1 (k + 1)))
most_more f k v most new before value is =
    let a : map f (range_with_len 1 (k + 1)) ≡ map f (range_with_len 1 k) ++ f (k + 1) ∷ [] = map-range_with_len_more f 1 k (k + 1) (omega arith) in
    let b : fold max 0 (map f (range_with_len 1 (k + 1))) ≡ max (fold max 0 (map f (range_with_len 1 k))) (f (k + 1)) = ap (fold max 0) a ∙ fold_max_more 0 (f (k + 1)) (map f (range_with_len 1 k)) in
    let c : new ≡ max most v = omega arith in
    c ∙ ap (λ n. max n v) before ∙ ap (λ n. max (fold max 0 (map f (range_with_len 1 k))) n) value ∙ sym b

-- the row at a place of the table
pub row_at : (case : GoodsCase) (table : LaneTable) (rows : List LaneRow) (place : ℕ) (other : LaneRow) → IsLaneTable case table → place < length table.rows.items → rows ≡ table.rows.items
    → IsLaneRow case (slice_index (order_of case) place) (get_or rows place other)
row_at case table rows place other is l same =
    let long = is.long in
    subst (λ (xs : List LaneRow). IsLaneRow case (slice_index (order_of case) place) (get_or xs place other)) (sym same) (is.each place other (omega arith))

-- the last goods, one more
pub top_more : (f : ℕ → ℕ) (case : GoodsCase) (free place top v : ℕ) → place + 1 + free ≡ case.facts.goods → v ≡ f (slice_index (order_of case) place)
    → top ≡ sum_by f (drop (case.facts.goods - free) (order_of case)) → top + v ≡ sum_by f (drop (case.facts.goods - (free + 1)) (order_of case))
top_more f case free place top v is value before =
    let long : length (order_of case) ≡ case.facts.goods = order_length case in
    let here : case.facts.goods - (free + 1) ≡ place = omega arith in
    let next : case.facts.goods - free ≡ place + 1 = omega arith in
    let e : sum_by f (drop place (order_of case)) ≡ f (get_or (order_of case) place 0) + sum_by f (drop (place + 1) (order_of case)) = sum_by-drop_more f (order_of case) place 0 (omega arith) in
    let old : top ≡ sum_by f (drop (place + 1) (order_of case)) = before ∙ ap (λ n. sum_by f (drop n (order_of case))) next in
    let new : sum_by f (drop (case.facts.goods - (free + 1)) (order_of case)) ≡ sum_by f (drop place (order_of case)) = ap (λ n. sum_by f (drop n (order_of case))) here in
    omega arith

-- no good is left
pub none_left : (xs : List ℕ) (n : ℕ) → length xs ≤ n → drop n xs ≡ []
none_left [] zero l = refl
none_left [] (suc n) l = refl
none_left (x ∷ xs) zero l = absurd (omega arith)
none_left (x ∷ xs) (suc n) l = none_left xs n (omega arith)

-- no free good adds nothing
pub no_top : (f : ℕ → ℕ) (case : GoodsCase) → 0 ≡ sum_by f (drop (case.facts.goods - 0) (order_of case))
no_top f case =
    let long : length (order_of case) ≡ case.facts.goods = order_length case in
    let e : drop (case.facts.goods - 0) (order_of case) ≡ [] = none_left (order_of case) (case.facts.goods - 0) (omega arith) in
    sym (ap (sum_by f) e)
