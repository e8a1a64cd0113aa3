use Rattle.std.proofs.Common.{ap, ◌∙◌}
use Rattle.nash_bounds.specs.Goals.{is_reached}
use Rattle.nash_bounds.proofs.LaneNumbers.{lanes_bound, span_of_lanes}
use Rattle.nash_bounds.proofs.reach.reaches.Goals as goal

pub judge-requires-clause-lanes : goal.judge-requires-clause-lanes
judge-requires-clause-lanes c = span_of_lanes c.args.case.now c.args.owners.now c.args.lanes.now c.requires.valid c.requires.few c.requires.lanes

pub returns : goal.returns
returns c =
    c.judge.ensures ∙ ap (is_reached c.args.goal.now.pair c.args.beyond) (lanes_bound c.args.case.now c.args.owners.now c.args.lanes.now c.requires.few c.requires.lanes)
