use Rattle.std.proofs.Common.{arith, sym, ◌↔◌, subst, reverse}
use Rattle.goods_rules.specs.Ahead.{FinishesAt, FinishesBehind, FinishesTree}
use Rattle.goods_rules.specs.Rules.{leaf_rule}
use Rattle.goods_rules.proofs.PathNodes.{path_next, path_same}
use Rattle.goods_rules.proofs.PathSteps.{climb_next}
use Rattle.goods_rules.proofs.path.Path.climb.Goals as goal

pub returns-then-to_sibling-clause-path : goal.returns-then-to_sibling-clause-path
returns-then-to_sibling-clause-path c case pair count h =
    let (above, owner, low, is, after) = c.to_sibling.ensures.goes c.if-to_sibling.true in
    path_next case pair c.args.self.now c.to_sibling.new.self above owner is after c.to_sibling.ensures.parents (omega arith) h

pub returns-then-to_sibling-clause-left : goal.returns-then-to_sibling-clause-left
returns-then-to_sibling-clause-left c case answer number marks =
    let (above, owner, low, is, after) = c.to_sibling.ensures.goes c.if-to_sibling.true in
    subst (λ p. FinishesBehind (leaf_rule case answer number) c.args.players case.facts.goods (reverse c.args.self.now.owners.items) marks
    ↔ FinishesAt (leaf_rule case answer number) c.args.players case.facts.goods (reverse p) marks) (sym after)
    (climb_next (leaf_rule case answer number) c.args.players case.facts.goods owner c.args.self.now.owners.items above is low marks)

pub returns-clause-path : goal.returns-clause-path
returns-clause-path c case pair count h =
    let (above, owner, full, is, same) = c.to_sibling.ensures.stays c.if-to_sibling.false in
    c.climb_up.ensures.path case pair count (path_same case pair c.args.self.now c.to_sibling.new.self same c.to_sibling.ensures.parents h)

pub returns-clause-left : goal.returns-clause-left
returns-clause-left c case answer number marks =
    let (above, owner, full, is, same) = c.to_sibling.ensures.stays c.if-to_sibling.false in
    subst (λ p. FinishesBehind (leaf_rule case answer number) c.args.players case.facts.goods (reverse p) marks
    ↔ FinishesTree (leaf_rule case answer number) c.args.players case.facts.goods c.climb_up.result c.climb_up.new.self.owners.items marks) same
    (c.climb_up.ensures.left case answer number marks)
