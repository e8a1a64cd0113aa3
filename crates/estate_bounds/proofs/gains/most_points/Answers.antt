use Rattle.std.proofs.Common.{◌≡◌, ℕ, ◌+◌, ◌-◌, ◌*◌, ◌^◌, ◌<◌, ◌≤◌, List, [], ◌∷◌, All, arith, ap, ◌∙◌, drop, get_or, slice_index, subst, sym}
use Rattle.bid_rules.specs.Goods.{order_of, points}
use Rattle.estate_bounds.specs.Prices.{IsListOf, most_points}
use Rattle.estate_bounds.specs.declared.limits.TheConstants.{FREE_ROOM}
use Rattle.estate_bounds.proofs.PriceSteps.{goods_before, goods_none}
use Rattle.estate_bounds.proofs.TopSteps.{by_lane_at, row_at}
use Rattle.estate_bounds.proofs.gains.most_points.Goals as goal

pub loop-free-init : goal.loop-free-init
loop-free-init c = record {
  items = subst (λ (gs : List ℕ). IsListOf (λ count. most_points c.args.case.now c.args.player count gs) FREE_ROOM c.no_points-mosts.result.items) (sym (goods_none c.args.case.now))
      (c.no_points-mosts.ensures.value c.args.case.now c.args.player);
  small = λ k d l. (let h = c.no_points-mosts.ensures.small k d l in omega arith);
}

pub loop-free-preserved : goal.loop-free-preserved
loop-free-preserved c =
    let case = c.args.case.now in
    let player = c.args.player in
    let rows = c.len-goods.ensures.value in
    let table = c.requires.table.long in
    let here = c.loop-free-test.true in
    let short = c.requires.short in
    let low = c.requires.low in
    let high = c.requires.high in
    let wide = c.from.ensures in
    let place : ℕ = c.len-goods.result - 1 - c.loop-free.free in
    let good : ℕ = slice_index (order_of case) place in
    let within : place < case.facts.goods = omega arith in
    let row = row_at case c.args.table.now _ place _ c.requires.table (omega arith) c.deref.ensures.0 in
    let back : player - 1 + 1 ≡ player = omega arith in
    let worth : get_or c.as_array.result.now (c.from.result - 1) 0 ≡ points case player good =
    ap (λ n. get_or c.as_array.result.now (n - 1) 0) wide ∙ by_lane_at (λ p. points case p good) case c.as_array.result.now (player - 1) (c.as_array.ensures ∙ row.is_points) c.requires.table.few (omega arith) ∙ ap (λ p. points case p good) back in
    let same : c.as_slice.result.now ≡ c.loop-free.mosts.items = c.as_slice.ensures.value in
    let before = subst (λ (xs : List ℕ). IsListOf (λ count. most_points case player count (drop (case.facts.goods - c.loop-free.free) (order_of case))) FREE_ROOM xs) (sym same) c.loop-free.invariant.items in
    let all : All (λ (n : ℕ). n ≤ 2 ^ 16 * c.loop-free.free) c.as_slice.result.now = subst (All (λ (n : ℕ). n ≤ 2 ^ 16 * c.loop-free.free)) (sym same) c.loop-free.invariant.small in
    let after = c.with_good-mosts.ensures.value case player good (drop (case.facts.goods - c.loop-free.free) (order_of case)) worth before in
    record {
      items = subst (λ (gs : List ℕ). IsListOf (λ count. most_points case player count gs) FREE_ROOM c.with_good-mosts.result.items) (sym (goods_before case c.loop-free.free place (omega arith))) after;
      small = λ k d l. (let h = c.with_good-mosts.ensures.small (2 ^ 16 * c.loop-free.free) all k d l in omega arith);
    }
