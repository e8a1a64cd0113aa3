use Rattle.nash_bounds.proofs.LaneNumbers.{row_of, fork_fits, fork_top, fork_is}
use Rattle.nash_bounds.proofs.lanes.fork.Goals as goal

pub less-lanes-requires-clause-each : goal.less-lanes-requires-clause-each
less-lanes-requires-clause-each c = λ k l. fork_fits c.args.case.now c.args.owners.now _ c.args.lanes.now k (row_of c.args.case.now c.args.table.now c.args.owners.now c.deref.result.now _ c.requires.table c.requires.open c.deref.ensures.0) c.requires.open c.requires.lanes l

pub overflow_sub-lanes : goal.overflow_sub-lanes
overflow_sub-lanes c = fork_top c.args.case.now c.args.owners.now _ c.args.lanes.now (row_of c.args.case.now c.args.table.now c.args.owners.now c.deref.result.now _ c.requires.table c.requires.open c.deref.ensures.0) c.requires.open c.requires.lanes

pub returns : goal.returns
returns c = fork_is c.args.case.now c.args.owners.now _ c.args.lanes.now c.less-lanes.result (row_of c.args.case.now c.args.table.now c.args.owners.now c.deref.result.now _ c.requires.table c.requires.open c.deref.ensures.0) c.requires.lanes c.less-lanes.ensures.long c.less-lanes.ensures.each
