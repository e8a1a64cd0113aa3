use Rattle.std.proofs.Common.{arith, get_or, refl}
use Rattle.std.proofs.lemmas.Grind.{common_steps}
use Rattle.split_reports.proofs.HeldGoods.{held_more}
use Rattle.split_reports.proofs.players.goods_of.Goals as goal

pub loop-k-preserved : goal.loop-k-preserved
loop-k-preserved c =
    let more = held_more c.args.owners.now c.args.player c.loop-k.k (get_or c.args.owners.now c.loop-k.k 0) refl in
    grind (arith, common_steps, more)
