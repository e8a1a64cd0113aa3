use Rattle.std.proofs.Common.{arith, refl, ap, ◌∙◌, sym, ◌↔◌, ◌∷◌, ◌≤◌, List, ℕ, subst, reverse}
use Rattle.bid_rules.specs.Goods.{player_count}
use Rattle.goods_rules.specs.Ahead.{FinishesBehind, CanStand, FinishesAt, FinishesTree, holds_so_far}
use Rattle.goods_rules.specs.Path.{IsPath}
use Rattle.goods_rules.specs.Rules.{leaf_rule}
use Rattle.goods_rules.specs.declared.path.Path.{Path}
use Rattle.goods_rules.proofs.MarkSteps.{judged, no_tree, one_leaf, passed, plus_fits}
use Rattle.goods_rules.proofs.PathSteps.{ahead_false, mark_plus}
use Rattle.goods_rules.proofs.walk.Walk.take_any.Goals as goal

pub returns-then-not-fits-clause-left : goal.returns-then-not-fits-clause-left
returns-then-not-fits-clause-left c number marks = (
  λ h. absurd (no_tree (leaf_rule c.args.answer.now.case c.args.answer.now.owners.items number) (player_count c.args.answer.now.case) c.args.answer.now.case.facts.goods
      c.args.self.now.whole c.args.self.now.path.owners.items c.args.mark marks (λ f. let now = c.fits.ensures.1 f in let never = c.if-not-fits.true in cc) h.1),
  λ h. absurd (c.give_up.ensures.kept number h.0),
)

pub returns-then-mark-eq-INNER_NODE-clause-left : goal.returns-then-mark-eq-INNER_NODE-clause-left
returns-then-mark-eq-INNER_NODE-clause-left c number marks =
    let case = c.args.answer.now.case in
    let leaf : List ℕ → ℕ → Type 0 = leaf_rule case c.args.answer.now.owners.items number in
    let path = c.args.self.now.path.owners.items in
    let longer = c.enter.new.self.owners.items in
    let fits : CanStand case.facts.goods c.args.self.now.whole path c.args.mark = c.fits.ensures.0 c.if-not-fits.false in
    let low = plus_fits case.facts.goods c.args.self.now.whole path c.args.mark fits c.if-mark-eq-INNER_NODE.true in
    let some : 1 ≤ player_count case = (let one = c.requires.answer.valid.some in let each = c.requires.answer.valid.each in omega arith) in
    let step : FinishesAt leaf (player_count case) case.facts.goods (reverse path) (c.args.mark ∷ marks) ↔ FinishesAt leaf (player_count case) case.facts.goods (reverse longer) marks =
    subst (λ m. FinishesAt leaf (player_count case) case.facts.goods (reverse path) (m ∷ marks) ↔ FinishesAt leaf (player_count case) case.facts.goods (reverse longer) marks) (sym c.if-mark-eq-INNER_NODE.true)
    (mark_plus leaf (player_count case) case.facts.goods path longer c.enter.ensures.owners some low marks) in
    passed (holds_so_far c.args.self.now.kept number) (holds_so_far c.args.self.now.kept number) refl
    (ahead_false leaf (player_count case) case.facts.goods c.args.self.now.whole path longer (c.args.mark ∷ marks) marks fits.0 step)

pub returns-clause-left : goal.returns-clause-left
returns-clause-left c number marks =
    let case = c.args.answer.now.case in
    let leaf : List ℕ → ℕ → Type 0 = leaf_rule case c.args.answer.now.owners.items number in
    let path = c.args.self.now.path.owners.items in
    let fits : CanStand case.facts.goods c.args.self.now.whole path c.args.mark = c.fits.ensures.0 c.if-not-fits.false in
    let after : FinishesBehind leaf (player_count case) case.facts.goods (reverse path) marks ↔ FinishesTree leaf (player_count case) case.facts.goods c.climb-self.result c.climb-self.new.self.owners.items marks =
    subst (λ n. FinishesBehind leaf n case.facts.goods (reverse path) marks ↔ FinishesTree leaf n case.facts.goods c.climb-self.result c.climb-self.new.self.owners.items marks) c.players.ensures.value
    (c.climb-self.ensures.left case c.args.answer.now.owners.items number marks) in
    judged (c.judge.ensures number) (one_leaf leaf (player_count case) case.facts.goods c.args.self.now.whole path c.args.mark marks fits c.if-mark-eq-INNER_NODE.false) after

pub returns-then-not-fits-clause-walk : goal.returns-then-not-fits-clause-walk
returns-then-not-fits-clause-walk c = record {
  path = subst (IsPath c.args.answer.now.case c.args.answer.now.goal.pair) (sym c.give_up.ensures.path) c.requires.walk.path;
  ended = λ whole. ap (λ (path : Path). path.owners.items) c.give_up.ensures.path ∙ c.requires.walk.ended (sym c.give_up.ensures.whole ∙ whole);
}

pub returns-then-mark-eq-INNER_NODE-clause-walk : goal.returns-then-mark-eq-INNER_NODE-clause-walk
returns-then-mark-eq-INNER_NODE-clause-walk c = record {
  path = c.enter.ensures.path;
  ended = λ whole. absurd (let fits = c.fits.ensures.0 c.if-not-fits.false in let going = fits.0 in cc);
}

pub returns-clause-walk : goal.returns-clause-walk
returns-clause-walk c = record {
  path = c.climb-self.ensures.path c.args.answer.now.case c.args.answer.now.goal.pair (sym c.players.ensures.value) c.requires.walk.path;
  ended = c.climb-self.ensures.ended;
}
