use Rattle.std.proofs.Common.{arith, refl, ◌++◌, ◌∷◌, []}
use Rattle.nash_bounds.specs.Lanes.{has, may_have}
use Rattle.nash_bounds.specs.Prefixes.{top_of}
use Rattle.nash_bounds.proofs.LongerPrefixes.{top_next}
use Rattle.nash_bounds.proofs.LaneNumbers.{lane_of, take_is, has_next, may_next}
use Rattle.nash_bounds.proofs.lanes.take.Goals as goal

pub lowered_lane-lanes-requires-clause-owner_high : goal.lowered_lane-lanes-requires-clause-owner_high
lowered_lane-lanes-requires-clause-owner_high c = let few = c.requires.table.few in let b = c.requires.owner_high in omega arith

pub lowered_lane-lanes-requires-clause-fits : goal.lowered_lane-lanes-requires-clause-fits
lowered_lane-lanes-requires-clause-fits c =
    let few = c.requires.table.few in let b = c.requires.owner_high in
    let e = lane_of (has c.args.case.now (c.args.owners.now ++ c.args.owner ∷ [])) c.args.lanes.now.low c.args.owner c.requires.lanes.is_low c.requires.owner_low (omega arith) in
    let n = has_next c.args.case.now c.args.owners.now c.args.owner c.requires.open.short in
    let p = c.points_of-points.ensures.value in
    omega arith

pub lowered_lane-lanes-requires-2-clause-owner_high : goal.lowered_lane-lanes-requires-2-clause-owner_high
lowered_lane-lanes-requires-2-clause-owner_high c = let few = c.requires.table.few in let b = c.requires.owner_high in omega arith

pub lowered_lane-lanes-requires-2-clause-fits : goal.lowered_lane-lanes-requires-2-clause-fits
lowered_lane-lanes-requires-2-clause-fits c =
    let few = c.requires.table.few in let b = c.requires.owner_high in
    let e = lane_of (may_have c.args.case.now (c.args.owners.now ++ c.args.owner ∷ [])) c.args.lanes.now.high c.args.owner c.requires.lanes.is_high c.requires.owner_low (omega arith) in
    let n = may_next c.args.case.now c.args.owners.now c.args.owner c.requires.open.short in
    let p = c.points_of-points.ensures.value in
    omega arith

pub overflow_sub-lanes : goal.overflow_sub-lanes
overflow_sub-lanes c =
    let t = c.requires.lanes.is_top in
    let e = top_next c.args.case.now c.args.owners.now c.args.owner (top_of c.args.case.now c.args.owners.now) c.requires.open.short c.requires.owner_low c.requires.owner_high refl in
    let p = c.points_of-points.ensures.value in
    omega arith

pub returns : goal.returns
returns c =
    let few = c.requires.table.few in let b = c.requires.owner_high in
    rw (c.lowered_lane-lanes.ensures, c.lowered_lane-lanes-2.ensures)
    (take_is c.args.case.now c.args.owners.now c.args.owner c.points_of-points.result c.args.lanes.now c.requires.open c.requires.owner_low c.requires.owner_high (omega arith) c.points_of-points.ensures.value c.requires.lanes)
