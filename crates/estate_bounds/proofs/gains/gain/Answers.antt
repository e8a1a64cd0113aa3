use Rattle.std.proofs.Common.{◌≡◌, ℕ, ◌+◌, ◌-◌, ◌*◌, ◌<◌, ◌≤◌, List, arith, ap, ◌∙◌, fold, get_or, map, max, min, subst, sym}
use Rattle.std.specs.List.{range_with_len}
use Rattle.bid_rules.specs.declared.limits.TheConstants.{WHOLE_POINTS}
use Rattle.bid_rules.specs.Goods.{order_of, utility}
use Rattle.nash_bounds.specs.Lanes.{has}
use Rattle.nash_bounds.specs.Prefixes.{free_goods}
use Rattle.estate_bounds.specs.Prices.{IsListOf, most_points, reserve}
use Rattle.estate_bounds.specs.declared.limits.TheConstants.{LOG_ROOM, PRICE_PARTS}
use Rattle.estate_bounds.proofs.PriceSteps.{greatest_same, left_at}
use Rattle.estate_bounds.proofs.TopSteps.{by_lane_at}
use Rattle.estate_bounds.proofs.gains.gain.Goals as goal

pub returns-clause-value : goal.returns-clause-value
returns-clause-value c =
    let case = c.args.case.now in
    let owners = c.args.owners.now in
    let player = c.args.player in
    let goods = case.facts.goods in
    let R : List ℕ = c.as_slice.result.now in
    let M : List ℕ = c.as_slice-2.result.now in
    let low : ℕ = get_or c.as_array.result.now (c.from.result - 1) 0 in
    let one = c.requires.low in
    let high = c.requires.high in
    let fits = c.len.ensures.fits in
    let rows : c.len.result ≡ goods = c.len.ensures.value ∙ c.requires.table.long in
    let back : player - 1 + 1 ≡ player = omega arith in
    let low_is : low ≡ utility case player (order_of case) owners =
    ap (λ n. get_or c.as_array.result.now (n - 1) 0) c.from.ensures ∙ by_lane_at (has case owners) case c.as_array.result.now (player - 1) (c.as_array.ensures ∙ c.requires.lanes.is_low) c.requires.table.few (omega arith) ∙ ap (has case owners) back in
    let reserves : IsListOf (reserve c.args.rate) LOG_ROOM R = subst (IsListOf (reserve c.args.rate) LOG_ROOM) (sym c.as_slice.ensures.value) c.reserves-reserves.ensures.value in
    let f : ℕ → ℕ = λ count. get_or R (min (low + get_or M count 0) WHOLE_POINTS) 0 - c.args.fee * PRICE_PARTS * count in
    let g : ℕ → ℕ = λ count. reserve c.args.rate (min (utility case player (order_of case) owners + most_points case player count (free_goods case owners)) WHOLE_POINTS) - c.args.fee * PRICE_PARTS * count in
    c.most_left.ensures.value ∙ ap (λ n. fold max 0 (map f (range_with_len 0 (n + 1)))) rows
    ∙ greatest_same f g (goods + 1) (λ count l.
    left_at R M c.args.rate c.args.fee low (utility case player (order_of case) owners) count (most_points case player count (free_goods case owners)) reserves low_is
    (ap (λ (xs : List ℕ). get_or xs count 0) c.as_slice-2.ensures.value ∙ c.most_points-mosts.ensures.value.each count (omega arith)))
