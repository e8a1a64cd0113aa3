use Rattle.std.proofs.Common.{arith, is_some}
use Rattle.std.proofs.lemmas.Grind.{common_steps}
use Rattle.bid_rules.proofs.Bidders.{members_more}
use Rattle.bid_rules.proofs.cases.members_with.Goals as goal

pub loop-k-preserved : goal.loop-k-preserved
loop-k-preserved g c =
    let more = members_more is_some c.args.bids.now c.loop-k.k c.index-bids-k.result c.loop-k-test.true in
    grind (arith, common_steps, more)
