use Rattle.std.proofs.Common.{arith, rules, ◌+◌, ◌≤◌, ◌++◌, ◌∷◌, []}
use Rattle.nash_bounds.specs.Lanes.{has, next_good}
use Rattle.nash_bounds.proofs.PlayerPoints.{points_le}
use Rattle.nash_bounds.proofs.LaneNumbers.{top_small, top_within, lane_of, give_is, has_next, may_next, may_small, forked}
use Rattle.nash_bounds.proofs.lanes.give.Goals as goal
use Rattle.nash_bounds.specs.declared.limits.TheConstants.{MOST_TOP}

pub raised_lane-lanes-requires-clause-owner_high : goal.raised_lane-lanes-requires-clause-owner_high
raised_lane-lanes-requires-clause-owner_high c = let few = c.requires.table.few in let b = c.requires.owner_high in omega arith

pub raised_lane-lanes-requires-clause-fits : goal.raised_lane-lanes-requires-clause-fits
raised_lane-lanes-requires-clause-fits c =
    let few = c.requires.table.few in let b = c.requires.owner_high in
    let e = lane_of (has c.args.case.now c.args.owners.now) c.args.lanes.now.low c.args.owner c.requires.lanes.is_low c.requires.owner_low (omega arith) in
    let n = has_next c.args.case.now c.args.owners.now c.args.owner c.requires.open.short in
    let p = c.points_of-points.ensures.value in
    let s = may_small c.args.case.now (c.args.owners.now ++ c.args.owner ∷ []) c.args.owner c.requires.open.valid c.requires.owner_low in
    omega arith

pub raised_lane-lanes-requires-2-clause-owner_high : goal.raised_lane-lanes-requires-2-clause-owner_high
raised_lane-lanes-requires-2-clause-owner_high c = let few = c.requires.table.few in let b = c.requires.owner_high in omega arith

pub raised_lane-lanes-requires-2-clause-fits : goal.raised_lane-lanes-requires-2-clause-fits
raised_lane-lanes-requires-2-clause-fits c =
    let few = c.requires.table.few in let b = c.requires.owner_high in
    let e = lane_of (forked c.args.case.now c.args.owners.now) c.args.lanes.now.high c.args.owner c.requires.lanes.is_high c.requires.owner_low (omega arith) in
    let n = may_next c.args.case.now c.args.owners.now c.args.owner c.requires.open.short in
    let p = c.points_of-points.ensures.value in
    let s = may_small c.args.case.now (c.args.owners.now ++ c.args.owner ∷ []) c.args.owner c.requires.open.valid c.requires.owner_low in
    omega arith

pub overflow_add-lanes : goal.overflow_add-lanes
overflow_add-lanes c =
    let t = c.requires.lanes.is_top in
    let small = top_small c.args.case.now c.args.owners.now c.requires.open.valid c.requires.table.few in
    let p = c.points_of-points.ensures.value in
    let w = top_within c.args.case.now c.args.owners.now c.requires.open.short in
    let m = points_le c.args.case.now c.args.owner (next_good c.args.case.now c.args.owners.now) c.requires.owner_low c.requires.owner_high in
    let h : c.args.lanes.now.top + c.points_of-points.result ≤ MOST_TOP = omega arith in
    search rules

pub returns : goal.returns
returns c =
    let few = c.requires.table.few in let b = c.requires.owner_high in
    rw (c.raised_lane-lanes.ensures, c.raised_lane-lanes-2.ensures)
    (give_is c.args.case.now c.args.owners.now c.args.owner c.points_of-points.result c.args.lanes.now c.requires.open c.requires.owner_low c.requires.owner_high (omega arith) c.points_of-points.ensures.value c.requires.lanes)
