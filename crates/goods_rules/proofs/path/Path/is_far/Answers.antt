use Rattle.std.proofs.Common.{arith, ◌∙◌, inl, sym, subst}
use Rattle.bid_rules.specs.declared.pair.Pair.{Pair}
use Rattle.bid_rules.specs.Pairs.{IsLess}
use Rattle.nash_bounds.specs.Prefixes.{prefix_bound}
use Rattle.goods_rules.proofs.PathNodes.{far_less, last_owner}
use Rattle.goods_rules.proofs.path.Path.is_far.Goals as goal

pub has-requires-clause-low : goal.has-requires-clause-low
has-requires-clause-low c =
    (last_owner c.args.answer.now.case c.args.answer.now.goal.pair c.args.self.now c.in-Some.owner.now c.in-Some.owners.now (sym c.as_slice.ensures.value ∙ c.in-Some.ensures.cases.0) c.requires.path).0

pub has-requires-clause-high : goal.has-requires-clause-high
has-requires-clause-high c =
    let few = c.requires.answer.table.few in
    let most = (last_owner c.args.answer.now.case c.args.answer.now.goal.pair c.args.self.now c.in-Some.owner.now c.in-Some.owners.now (sym c.as_slice.ensures.value ∙ c.in-Some.ensures.cases.0) c.requires.path).1 in
    omega arith

pub returns-clause-left : goal.returns-clause-left
returns-clause-left c = λ far.
    let answer = c.args.answer.now in
    let path = c.args.self.now in
    let less : IsLess (prefix_bound answer.case path.owners.items) answer.goal.pair =
    far_less answer.case answer.goal.pair path c.in-Some.owner.now c.in-Some.owners.now c.deref.result.now _ c.has.result (sym c.as_slice.ensures.value ∙ c.in-Some.ensures.cases.0) c.deref.ensures.0 c.has.ensures far c.requires.path in
    (c.open_prefixes_law.ensures.left answer.case answer.owners.items path.owners.items).1 (inl (subst (λ (pair : Pair). IsLess (prefix_bound answer.case path.owners.items) pair) c.requires.answer.pair less))
