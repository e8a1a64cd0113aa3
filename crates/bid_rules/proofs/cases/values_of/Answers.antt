use Rattle.std.proofs.Common.{arith}
use Rattle.std.proofs.lemmas.Grind.{common_steps}
use Rattle.bid_rules.proofs.GivenValues.{values_more}
use Rattle.bid_rules.proofs.cases.values_of.Goals as goal

pub loop-bid-preserved : goal.loop-bid-preserved
loop-bid-preserved c =
    let more = values_more c.args.bids.now c.loop-bid.bid-index c.bid-item.result c.loop-bid-test.true in
    grind (arith, common_steps, more)
