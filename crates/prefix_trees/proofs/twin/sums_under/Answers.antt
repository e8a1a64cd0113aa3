use Rattle.std.proofs.Common.{arith, ◌≡◌, ◌<◌, ◌≤◌, ◌++◌, ◌∷◌, [], ℕ, List, length, take, get_or, sym, ◌∙◌, ap}
use Rattle.std.proofs.lemmas.List.{length-take-le, take_all, take_more}
use Rattle.bid_rules.specs.declared.goods.GoodsCase.{GoodsCase}
use Rattle.bid_rules.specs.Goods.{order_of, points}
use Rattle.nash_bounds.specs.declared.lanes.LaneRow.{LaneRow}
use Rattle.nash_bounds.specs.declared.lanes.LaneTable.{LaneTable}
use Rattle.nash_bounds.specs.Lanes.{IsLaneTable, by_lane, has}
use Rattle.prefix_trees.proofs.PlayerSums.{has_most, next_sum, no_sums, sums_more}
use Rattle.prefix_trees.proofs.twin.sums_under.Goals as goal

-- the points for the next good, one a lane
row_at : (case : GoodsCase) (table : LaneTable) (rows : List LaneRow) (other : LaneRow) (owners : List ℕ) (k : ℕ) → IsLaneTable case table → rows ≡ table.rows.items → k < length owners → length owners ≤ case.facts.goods
    → (get_or rows k other).points ≡ by_lane (λ player. points case player (get_or (order_of case) (length (take k owners)) 0))
row_at case table rows other owners k h same l short =
    let within : k < case.facts.goods = omega arith in
    let place = length-take-le k owners (omega arith) in
    ap (λ (rs : List LaneRow). (get_or rs k other).points) same ∙ (h.each k other within).is_points ∙ ap (λ i. by_lane (λ player. points case player (get_or (order_of case) i 0))) (sym place)

pub loop-k-init : goal.loop-k-init
loop-k-init c = no_sums c.args.case.now

pub loop-k-preserved : goal.loop-k-preserved
loop-k-preserved c =
    let case = c.args.case.now in
    let owners : List ℕ = c.args.owners.now in
    let k : ℕ = c.loop-k.k in
    let l : k < length owners = c.loop-k-test.true in
    let short = c.requires.short in
    let few = c.requires.table.few in
    let long = c.search_order_law.ensures.length case in
    let place = length-take-le k owners (omega arith) in
    let owner = c.requires.owned k 0 l in
    let low = owner.0 in
    let high = owner.1 in
    let row = row_at case c.args.table.now c.deref.result.now (record { points = []; greatest = 0 }) owners k c.requires.table c.deref.ensures.0 l short in
    let step = sums_more case (take k owners) (get_or owners k 0) (get_or c.deref.result.now k (record { points = []; greatest = 0 })).points c.loop-k.sums c.add_points.new.sums (omega arith) low (omega arith) row c.loop-k.invariant c.add_points.ensures in
    step ∙ ap (λ xs. by_lane (has case xs)) (sym (take_more owners k 0 l))

pub add_points-requires-clause-fits : goal.add_points-requires-clause-fits
add_points-requires-clause-fits c =
    let case = c.args.case.now in
    let owners : List ℕ = c.args.owners.now in
    let k : ℕ = c.loop-k.k in
    let l : k < length owners = c.loop-k-test.true in
    let short = c.requires.short in
    let few = c.requires.table.few in
    let long = c.search_order_law.ensures.length case in
    let place = length-take-le k owners (omega arith) in
    let owner = c.requires.owned k 0 l in
    let low = owner.0 in
    let high = owner.1 in
    let row = row_at case c.args.table.now c.deref.result.now (record { points = []; greatest = 0 }) owners k c.requires.table c.deref.ensures.0 l short in
    let sum = next_sum case (take k owners) (get_or owners k 0) (get_or c.deref.result.now k (record { points = []; greatest = 0 })).points c.loop-k.sums (omega arith) low (omega arith) row c.loop-k.invariant in
    let most : has case (take k owners ++ get_or owners k 0 ∷ []) (get_or owners k 0) ≤ 1000 = has_most case (take k owners ++ get_or owners k 0 ∷ []) (get_or owners k 0) c.requires.case (c.search_order_law.ensures.once case) low high in
    omega (arith, sum, most)

pub returns : goal.returns
returns c =
    let past : length c.args.owners.now ≤ c.loop-k.k = (let end = c.loop-k-test.false in omega arith) in
    c.loop-k.invariant ∙ ap (λ xs. by_lane (has c.args.case.now xs)) (take_all c.loop-k.k c.args.owners.now past)
