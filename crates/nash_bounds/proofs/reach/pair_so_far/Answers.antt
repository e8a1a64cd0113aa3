use Rattle.std.proofs.Common.{ap, ◌∙◌}
use Rattle.bid_rules.specs.Pairs.{positives}
use Rattle.bid_rules.specs.declared.pair.Pair.{Pair}
use Rattle.nash_bounds.proofs.LaneNumbers.{low_pair, low_rest, span_of_lanes}
use Rattle.nash_bounds.proofs.LaneVectors.{small_below}
use Rattle.nash_bounds.proofs.reach.pair_so_far.Goals as goal

pub product_of-requires-clause-small : goal.product_of-requires-clause-small
product_of-requires-clause-small c =
    let is = span_of_lanes c.args.case.now c.args.owners.now c.args.lanes.now c.requires.valid c.requires.few c.requires.lanes in
    small_below c.args.lanes.now.low c.args.lanes.now.high is.in_order is.small

pub product_of-requires-clause-rest : goal.product_of-requires-clause-rest
product_of-requires-clause-rest c = low_rest c.args.lanes.now (span_of_lanes c.args.case.now c.args.owners.now c.args.lanes.now c.requires.valid c.requires.few c.requires.lanes)

pub returns : goal.returns
returns c =
    let low = c.args.lanes.now.low in
    ap (λ n. let q : Pair = record { count = n; product = c.product_of.result } in q) c.count_positive.ensures.value
    ∙ ap (λ n. let q : Pair = record { count = positives low; product = n } in q) c.product_of.ensures
    ∙ low_pair c.args.case.now c.args.owners.now c.args.lanes.now c.requires.few c.requires.lanes
