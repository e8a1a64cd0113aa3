use Rattle.std.proofs.Common.{arith, ◌≡◌, ◌∙◌, ap, sym, ◌↔◌, ◌++◌, ◌∷◌, [], List, ℕ, length, subst, reverse, take}
use Rattle.goods_rules.specs.Ahead.{FinishesBehind, FinishesAt}
use Rattle.goods_rules.specs.Rules.{leaf_rule}
use Rattle.goods_rules.proofs.PathNodes.{path_next, path_up}
use Rattle.goods_rules.proofs.PathSteps.{both_ways, climb_next, climb_step, empty_path}
use Rattle.goods_rules.proofs.path.Path.climb_up.Goals as goal

pub up-preserved : goal.up-preserved
up-preserved c =
    let (above, owner, full, is, same) = c.to_sibling.ensures.stays c.if-to_sibling.false in
    let front : List ℕ = c.ascend.new.self.owners.items in
    let popped : c.up.self.owners.items ≡ front ++ owner ∷ [] = is ∙ ap (λ (xs : List ℕ). xs ++ owner ∷ []) (sym (c.ascend.ensures.owners above owner (same ∙ is))) in
    record {
      left = λ case answer number marks. both_ways (c.up.invariant.left case answer number marks)
          (climb_step (leaf_rule case answer number) c.args.players case.facts.goods owner c.up.self.owners.items front popped full marks);
      path = λ case pair h. path_up case pair c.up.self c.ascend.new.self owner popped (c.ascend.ensures.parents ∙ ap (take (length front)) c.to_sibling.ensures.parents) (c.up.invariant.path case pair h);
    }

pub returns-then-to_sibling-clause-path : goal.returns-then-to_sibling-clause-path
returns-then-to_sibling-clause-path c case pair count h =
    let (above, owner, low, is, after) = c.to_sibling.ensures.goes c.if-to_sibling.true in
    path_next case pair c.up.self c.to_sibling.new.self above owner is after c.to_sibling.ensures.parents (omega arith) (c.up.invariant.path case pair h)

pub returns-then-to_sibling-clause-left : goal.returns-then-to_sibling-clause-left
returns-then-to_sibling-clause-left c case answer number marks =
    let (above, owner, low, is, after) = c.to_sibling.ensures.goes c.if-to_sibling.true in
    subst (λ p. FinishesBehind (leaf_rule case answer number) c.args.players case.facts.goods (reverse c.args.self.now.owners.items) marks
    ↔ FinishesAt (leaf_rule case answer number) c.args.players case.facts.goods (reverse p) marks) (sym after)
    (both_ways (c.up.invariant.left case answer number marks)
    (climb_next (leaf_rule case answer number) c.args.players case.facts.goods owner c.up.self.owners.items above is low marks))

pub returns-clause-ended : goal.returns-clause-ended
returns-clause-ended c = λ _. empty_path c.up.self.owners.items (omega arith)

pub returns-clause-left : goal.returns-clause-left
returns-clause-left c case answer number marks =
    subst (λ p. FinishesBehind (leaf_rule case answer number) c.args.players case.facts.goods (reverse c.args.self.now.owners.items) marks
    ↔ FinishesBehind (leaf_rule case answer number) c.args.players case.facts.goods (reverse p) marks)
    (empty_path c.up.self.owners.items (omega arith)) (c.up.invariant.left case answer number marks)
