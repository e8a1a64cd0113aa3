use Rattle.std.proofs.Common.{below_more}
use Rattle.rent_rules.proofs.walks.are_ranked.Goals as goal

pub loop-to-preserved : goal.loop-to-preserved
loop-to-preserved c = below_more _ c.loop-to.to c.loop-to.invariant (c.is_ranked.ensures.0 c.if-not-is_ranked.false)
