use Rattle.nash_bounds.proofs.LaneNumbers.{lane_row_is, row_small}
use Rattle.nash_bounds.proofs.lanes.lane_row.Goals as goal

pub laned-requires-clause-small : goal.laned-requires-clause-small
laned-requires-clause-small c = row_small c.args.case.now c.args.good c.args.row.now c.as_slice.result.now c.requires.case c.requires.row c.as_slice.ensures.value

pub returns : goal.returns
returns c = lane_row_is c.args.case.now c.args.good c.args.row.now c.as_slice.result.now c.laned.result c.requires.few c.requires.row c.as_slice.ensures.value c.laned.ensures.long c.laned.ensures.each
