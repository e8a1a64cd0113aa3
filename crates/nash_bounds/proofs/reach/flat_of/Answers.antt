use Rattle.nash_bounds.proofs.LaneNumbers.{span_of_fork}
use Rattle.nash_bounds.proofs.reach.flat_of.Goals as goal

pub flat_at-requires : goal.flat_at-requires
flat_at-requires c = span_of_fork c.args.case.now c.args.owners.now c.args.lanes.now c.requires.open c.requires.table.few c.requires.lanes
