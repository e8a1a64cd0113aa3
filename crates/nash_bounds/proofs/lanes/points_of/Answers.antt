use Rattle.std.proofs.Common.{arith, ◌∙◌}
use Rattle.nash_bounds.proofs.LaneNumbers.{row_of, row_owner}
use Rattle.nash_bounds.proofs.lanes.points_of.Goals as goal

pub returns : goal.returns
returns c =
    let few = c.requires.table.few in
    let b = c.requires.owner_high in
    record { value = c.lane_of.ensures ∙ row_owner c.args.case.now c.args.owners.now _ c.args.owner (row_of c.args.case.now c.args.table.now c.args.owners.now c.deref.result.now _ c.requires.table c.requires.open c.deref.ensures.0) c.requires.owner_low (omega arith) }
