use Rattle.nash_bounds.specs.Goals.{is_reached}
use Rattle.nash_bounds.specs.Levels.{bound_of}
use Rattle.std.proofs.Common.{ap, ◌∙◌}
use Rattle.nash_bounds.proofs.OneBound.{bound_of-is, same_bound}
use Rattle.nash_bounds.proofs.reach.judge.Goals as goal

pub returns-in-None : goal.returns-in-None
returns-in-None c =
    let is = c.requires.lanes in
    let lanes = c.args.lanes.now in
    c.reaches_by-reaches.ensures ∙ ap (is_reached c.args.goal.now.pair c.args.beyond)
    (same_bound lanes.low lanes.high lanes.top c.bound_between-bound.result (bound_of lanes.low lanes.high lanes.top) c.bound_between-bound.ensures (bound_of-is lanes.low lanes.high lanes.top is.in_order is.small is.within))
