use Rattle.std.proofs.Common.{◌≡◌, ℕ, ◌+◌, ◌-◌, ◌*◌, ◌<◌, ◌≤◌, List, arith, ap, ◌∙◌, get_or, length, min}
use Rattle.bid_rules.specs.declared.limits.TheConstants.{WHOLE_POINTS}
use Rattle.estate_bounds.specs.declared.limits.TheConstants.{LOG_ROOM, MOST_LOG, PRICE_PARTS}
use Rattle.estate_bounds.proofs.PriceSteps.{greatest_next}
use Rattle.estate_bounds.proofs.gains.most_left.Goals as goal

pub loop-count-preserved : goal.loop-count-preserved
loop-count-preserved c =
    let reserves = c.args.reserves.now in
    let mosts = c.args.mosts.now in
    let count = c.loop-count.count in
    let points : c.min-points.result ≡ min (c.args.low + get_or mosts count 0) WHOLE_POINTS =
    c.min-points.ensures ∙ ap (λ n. min (n + get_or mosts count 0) c.from-in-loop-count.result) c.from.ensures ∙ ap (λ n. min (c.args.low + get_or mosts count 0) n) c.from-in-loop-count.ensures in
    let left : c.left_over.result ≡ get_or reserves (min (c.args.low + get_or mosts count 0) WHOLE_POINTS) 0 - c.args.fee * PRICE_PARTS * count =
    c.left_over.ensures.value ∙ ap (λ m. get_or reserves m 0 - c.args.fee * PRICE_PARTS * count) points in
    let long = c.requires.reserves in
    let log : get_or reserves c.min-points.result 0 ≤ MOST_LOG = c.requires.logs c.min-points.result 0 (omega arith) in
    let before = c.loop-count.invariant.small in
    let within = c.left_over.ensures.small in
    let is = c.max-most.ensures in
    record {
      small = omega arith;
      value = greatest_next (λ n. get_or reserves (min (c.args.low + get_or mosts n 0) WHOLE_POINTS) 0 - c.args.fee * PRICE_PARTS * n) count c.left_over.result c.loop-count.most c.max-most.result c.loop-count.invariant.value left is;
    }
