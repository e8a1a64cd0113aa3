use Rattle.std.proofs.Common.{arith, ◌<◌, ◌≤◌, length, sym, subst}
use Rattle.std.proofs.lemmas.List.{take_all, take_more}
use Rattle.nash_bounds.specs.Lanes.{IsLanes}
use Rattle.prefix_trees.proofs.twin.lanes_under.Goals as goal

pub loop-k-preserved : goal.loop-k-preserved
loop-k-preserved c =
    let within : c.loop-k.k < length c.args.owners.now = c.loop-k-test.true in
    subst (λ xs. IsLanes c.args.case.now xs c.give.new.lanes) (sym (take_more c.args.owners.now c.loop-k.k 0 within)) c.give.ensures

pub returns : goal.returns
returns c =
    let past : length c.args.owners.now ≤ c.loop-k.k = (let end = c.loop-k-test.false in omega arith) in
    subst (λ xs. IsLanes c.args.case.now xs c.loop-k.lanes) (take_all c.loop-k.k c.args.owners.now past) c.loop-k.invariant
