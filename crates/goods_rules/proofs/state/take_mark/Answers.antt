use Rattle.goods_rules.proofs.WalkedTrees.{one_taken}
use Rattle.goods_rules.proofs.state.take_mark.Goals as goal

pub returns-in-Walking-clause-stands : goal.returns-in-Walking-clause-stands
returns-in-Walking-clause-stands c view taken h =
    let stands = rw c.in-Walking.is at h in
    one_taken view taken c.in-Walking.answer c.in-Walking.walk c.take.new.self c.args.mark c.take.ensures.left stands
