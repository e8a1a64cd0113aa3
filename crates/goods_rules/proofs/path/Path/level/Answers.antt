use Rattle.std.proofs.Common.{arith, ◌∙◌, sym}
use Rattle.goods_rules.proofs.PathNodes.{last_owner}
use Rattle.goods_rules.proofs.path.Path.level.Goals as goal

pub level_of-requires-clause-low : goal.level_of-requires-clause-low
level_of-requires-clause-low c =
    (last_owner c.args.answer.now.case c.args.answer.now.goal.pair c.args.self.now c.in-Some.owner.now c.in-Some.owners.now (sym c.as_slice.ensures.value ∙ c.in-Some.ensures.cases.0) c.requires.path).0

pub level_of-requires-clause-high : goal.level_of-requires-clause-high
level_of-requires-clause-high c =
    let few = c.requires.answer.table.few in
    let most = (last_owner c.args.answer.now.case c.args.answer.now.goal.pair c.args.self.now c.in-Some.owner.now c.in-Some.owners.now (sym c.as_slice.ensures.value ∙ c.in-Some.ensures.cases.0) c.requires.path).1 in
    omega arith
