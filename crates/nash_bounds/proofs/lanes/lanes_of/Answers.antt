use Rattle.nash_bounds.proofs.LaneNumbers.{lanes_are, low_small, high_small}
use Rattle.nash_bounds.proofs.lanes.lanes_of.Goals as goal

pub laned-requires-clause-small : goal.laned-requires-clause-small
laned-requires-clause-small c = low_small c.args.case.now c.args.prefix.now c.as_slice.result.now c.requires.case c.requires.prefix c.as_slice.ensures.value

pub laned-requires-2-clause-small : goal.laned-requires-2-clause-small
laned-requires-2-clause-small c = high_small c.args.case.now c.args.prefix.now c.as_slice-2.result.now c.requires.case c.requires.prefix c.as_slice-2.ensures.value

pub returns : goal.returns
returns c = lanes_are c.args.case.now c.args.prefix.now c.as_slice.result.now c.as_slice-2.result.now c.laned.result c.laned-2.result c.requires.few c.requires.prefix c.as_slice.ensures.value c.as_slice-2.ensures.value
    c.laned.ensures.long c.laned.ensures.each c.laned-2.ensures.long c.laned-2.ensures.each
