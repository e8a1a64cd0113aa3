use Rattle.std.proofs.Common.{arith}
use Rattle.goods_rules.specs.declared.path.Path.{Path}
use Rattle.goods_rules.proofs.PathNodes.{path_down}
use Rattle.goods_rules.proofs.path.Path.enter.Goals as goal

pub returns-clause-path : goal.returns-clause-path
returns-clause-path c =
    let below : Path = record { owners = c.push-2.new.self; parents = c.push.new.self } in
    let some = c.requires.answer.valid.some in
    let each = c.requires.answer.valid.each in
    path_down c.args.answer.now.case c.args.answer.now.goal.pair c.args.self.now below 1 c.parent-parent.result c.push-2.ensures.items c.push.ensures.items (omega arith) (omega (arith, some, each)) c.requires.open
    c.parent-parent.ensures c.requires.path
