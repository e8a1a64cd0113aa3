use Rattle.std.proofs.Common.{arith, ◌-◌, ◌<◌, [], length, get_or}
use Rattle.nash_bounds.specs.FarLanes.{lane_bit}
use Rattle.nash_bounds.specs.Lanes.{next_good}
use Rattle.nash_bounds.specs.declared.lanes.LaneRow.{LaneRow}
use Rattle.nash_bounds.specs.declared.limits.TheConstants.{LANES}
use Rattle.nash_bounds.proofs.FarOwners.{far_bound, flat_before, lane_order}
use Rattle.nash_bounds.proofs.LaneNumbers.{row_of, row_owner, span_of_fork}
use Rattle.nash_bounds.proofs.ShortLanes.{after_within, before_small, bit_clear, far_lane, fork_whole, row_long, spare_small}
use Rattle.nash_bounds.proofs.contenders.contenders_at.Goals as goal

-- what a row past the last would be
abbrev past : LaneRow
past = record { points = []; greatest = 0 }

pub entries_with-after-requires-clause-order : goal.entries_with-after-requires-clause-order
entries_with-after-requires-clause-order c = λ k l. lane_order c.args.lanes.now k (span_of_fork c.args.case.now c.args.owners.now c.args.lanes.now c.requires.open c.requires.table.few c.requires.lanes) l

pub entries_with-after-requires-clause-fits : goal.entries_with-after-requires-clause-fits
entries_with-after-requires-clause-fits c = λ k l. fork_whole c.args.case.now c.args.owners.now _ c.args.lanes.now k (row_of c.args.case.now c.args.table.now c.args.owners.now c.deref.result.now past c.requires.table c.requires.open c.deref.ensures.0) c.requires.open c.requires.lanes l

pub left_over-over-requires-clause-points : goal.left_over-over-requires-clause-points
left_over-over-requires-clause-points c = row_long c.args.case.now (next_good c.args.case.now c.args.owners.now) _ (row_of c.args.case.now c.args.table.now c.args.owners.now c.deref.result.now past c.requires.table c.requires.open c.deref.ensures.0)

pub left_over-over-requires-clause-small : goal.left_over-over-requires-clause-small
left_over-over-requires-clause-small c = let s = spare_small c.args.case.now c.args.owners.now c.args.lanes.now c.args.flat.now c.requires.open c.requires.table.few c.requires.lanes c.requires.flat in omega arith

pub left_over-over-requires-clause-fits : goal.left_over-over-requires-clause-fits
left_over-over-requires-clause-fits c = λ k l.
    let s = spare_small c.args.case.now c.args.owners.now c.args.lanes.now c.args.flat.now c.requires.open c.requires.table.few c.requires.lanes c.requires.flat in
    let w = fork_whole c.args.case.now c.args.owners.now (get_or c.deref.result.now (length c.args.owners.now) past) c.args.lanes.now k (row_of c.args.case.now c.args.table.now c.args.owners.now c.deref.result.now past c.requires.table c.requires.open c.deref.ensures.0) c.requires.open c.requires.lanes l in
    let b = before_small c.args.lanes.now c.args.flat.now k (span_of_fork c.args.case.now c.args.owners.now c.args.lanes.now c.requires.open c.requires.table.few c.requires.lanes) c.requires.flat l in
    omega arith

pub left_over-over-requires-clause-less : goal.left_over-over-requires-clause-less
left_over-over-requires-clause-less c = λ k l.
    after_within c.args.lanes.now c.args.flat.now k (get_or (get_or c.deref.result.now (length c.args.owners.now) past).points k 0) (get_or c.entries_with-after.result k 0) (span_of_fork c.args.case.now c.args.owners.now c.args.lanes.now c.requires.open c.requires.table.few c.requires.lanes) c.requires.flat l (c.entries_with-after.ensures.each k l)

pub reaching-reaching-requires-clause-before : goal.reaching-reaching-requires-clause-before
reaching-reaching-requires-clause-before c = λ k l. before_small c.args.lanes.now c.args.flat.now k (span_of_fork c.args.case.now c.args.owners.now c.args.lanes.now c.requires.open c.requires.table.few c.requires.lanes) c.requires.flat l

pub reaching-reaching-requires-clause-after : goal.reaching-reaching-requires-clause-after
reaching-reaching-requires-clause-after c = λ k l.
    let w = fork_whole c.args.case.now c.args.owners.now (get_or c.deref.result.now (length c.args.owners.now) past) c.args.lanes.now k (row_of c.args.case.now c.args.table.now c.args.owners.now c.deref.result.now past c.requires.table c.requires.open c.deref.ensures.0) c.requires.open c.requires.lanes l in
    let o = lane_order c.args.lanes.now k (span_of_fork c.args.case.now c.args.owners.now c.args.lanes.now c.requires.open c.requires.table.few c.requires.lanes) l in
    let e = c.entries_with-after.ensures.each k l in
    omega arith

pub opened-opened-requires-clause-points : goal.opened-opened-requires-clause-points
opened-opened-requires-clause-points c = row_long c.args.case.now (next_good c.args.case.now c.args.owners.now) _ (row_of c.args.case.now c.args.table.now c.args.owners.now c.deref.result.now past c.requires.table c.requires.open c.deref.ensures.0)

pub returns : goal.returns
returns c = λ owner low high clear.
    let few = c.requires.table.few in
    let k = owner - 1 in
    let l : k < LANES = omega arith in
    let lanes = c.args.lanes.now in
    let flat = c.args.flat.now in
    let row = (get_or c.deref.result.now (length c.args.owners.now) past) in
    let is = (row_of c.args.case.now c.args.table.now c.args.owners.now c.deref.result.now past c.requires.table c.requires.open c.deref.ensures.0) in
    let span = (span_of_fork c.args.case.now c.args.owners.now c.args.lanes.now c.requires.open c.requires.table.few c.requires.lanes) in
    let given = get_or row.points k 0 in
    let far = far_lane (get_or lanes.low k 0) (get_or lanes.high k 0) given (get_or flat.entries k 0) (get_or c.entries_with-after.result k 0) (get_or c.left_over-over.result k 0) c.shares_of-shares.result
    (lane_bit c.opened-opened.result k) (lane_bit c.reaching-reaching.result k) flat c.args.goal.now.pair
    (flat_before lanes flat k span c.requires.flat l) (c.entries_with-after.ensures.each k l) (c.left_over-over.ensures.each k l) (c.opened-opened.ensures k l) (c.reaching-reaching.ensures k l)
    c.shares_of-shares.ensures.above (c.among.ensures k l (bit_clear c.among.result k clear)) in
    far_bound c.args.case.now c.args.owners.now owner given c.shares_of-shares.result lanes flat c.args.goal.now.pair c.requires.open few low high
    (row_owner c.args.case.now c.args.owners.now row owner is low (omega arith)) span c.requires.lanes c.requires.flat far
