use Rattle.nash_bounds.proofs.LaneNumbers.{row_of, join_fits, join_top, join_is}
use Rattle.nash_bounds.proofs.lanes.join.Goals as goal

pub more-lanes-requires-clause-each : goal.more-lanes-requires-clause-each
more-lanes-requires-clause-each c = λ k l. join_fits c.args.case.now c.args.owners.now _ c.args.lanes.now k (row_of c.args.case.now c.args.table.now c.args.owners.now c.deref.result.now _ c.requires.table c.requires.open c.deref.ensures.0) c.requires.open c.requires.lanes l

pub raised-lanes-requires : goal.raised-lanes-requires
raised-lanes-requires c = join_top c.args.case.now c.args.owners.now _ c.args.lanes.now (row_of c.args.case.now c.args.table.now c.args.owners.now c.deref.result.now _ c.requires.table c.requires.open c.deref.ensures.0) c.requires.open c.requires.table.few c.requires.lanes

pub returns : goal.returns
returns c = rw c.raised-lanes.ensures (join_is c.args.case.now c.args.owners.now _ c.args.lanes.now c.more-lanes.result (row_of c.args.case.now c.args.table.now c.args.owners.now c.deref.result.now _ c.requires.table c.requires.open c.deref.ensures.0) c.requires.open c.requires.lanes c.more-lanes.ensures.long c.more-lanes.ensures.each)
