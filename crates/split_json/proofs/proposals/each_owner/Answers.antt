use Rattle.std.proofs.Common.{refl, arith}
use Rattle.serde_json.specs.View.{view}
use Rattle.split_json.specs.Proposals.{owner_in}
use Rattle.split_json.proofs.Lists.{each-goes_on, each-stops}
use Rattle.split_json.proofs.proposals.each_owner.Goals as goal

pub returns-in_err-owner_in : goal.returns-in_err-owner_in
returns-in_err-owner_in c =
    let none = each-stops (owner_in c.args.bids.now) view c.args.list.now c.loop-item.item-index c.item-item.result c.loop-item-test.true c.item-item.is c.in_err-owner_in.ensures in
    rw (c.from_residual.ensures, none) refl

pub loop-item-preserved : goal.loop-item-preserved
loop-item-preserved c =
    let held = each-goes_on (owner_in c.args.bids.now) view c.args.list.now c.loop-item.item-index c.item-item.result _ _ c.loop-item-test.true c.item-item.is c.loop-item.invariant.held c.in_ok-owner_in.ensures in
    record { held = rw c.push.ensures.items (held); count = omega (arith, c.push.ensures.len, c.loop-item.invariant.count) }
