use Rattle.std.proofs.Common.{arith, refl, ◌≡◌, ◌<◌, inl, inr, ap, sym, ◌↔◌, [], List, ℕ, length, subst, reverse, Bool, true, false}
use Rattle.bid_rules.specs.Goods.{player_count}
use Rattle.goods_rules.specs.Ahead.{FinishesBehind, CanStand, FinishesTree}
use Rattle.goods_rules.specs.Rules.{leaf_rule}
use Rattle.goods_rules.proofs.MarkSteps.{judged, left_leaf, one_leaf}
use Rattle.goods_rules.proofs.walk.Walk.take.Goals as goal

pub returns-then-is_far-clause-walk : goal.returns-then-is_far-clause-walk
returns-then-is_far-clause-walk c = record {
  path = c.climb-self.ensures.path c.args.answer.now.case c.args.answer.now.goal.pair (sym c.players.ensures.value) c.requires.walk.path;
  ended = c.climb-self.ensures.ended;
}

-- a walk that is not at the root goes on
going : (whole : Bool) (owners : List ℕ) → (whole ≡ true → owners ≡ []) → 0 < length owners → whole ≡ false
going true owners ended some = let none = ap length (ended refl) in absurd (omega arith)
going false owners ended some = refl

pub returns-then-is_far-clause-left : goal.returns-then-is_far-clause-left
returns-then-is_far-clause-left c number marks =
    let case = c.args.answer.now.case in
    let answer : List ℕ = c.args.answer.now.owners.items in
    let leaf : List ℕ → ℕ → Type 0 = leaf_rule case answer number in
    let path = c.args.self.now.path.owners.items in
    let mark = c.if-mark-eq-LEFT_OUT.true in
    let fits : CanStand case.facts.goods c.args.self.now.whole path c.args.mark = (going c.args.self.now.whole path c.requires.walk.ended (c.is_far.ensures.child c.if-is_far.true), inr (inl mark)) in
    let stands : leaf path c.args.mark = subst (leaf path) (sym mark) (left_leaf case answer path number (c.is_far.ensures.left c.if-is_far.true)) in
    let after : FinishesBehind leaf (player_count case) case.facts.goods (reverse path) marks ↔ FinishesTree leaf (player_count case) case.facts.goods c.climb-self.result c.climb-self.new.self.owners.items marks =
    subst (λ n. FinishesBehind leaf n case.facts.goods (reverse path) marks ↔ FinishesTree leaf n case.facts.goods c.climb-self.result c.climb-self.new.self.owners.items marks) c.players.ensures.value
    (c.climb-self.ensures.left case answer number marks) in
    judged (λ kept. (kept, stands), λ both. both.0) (one_leaf leaf (player_count case) case.facts.goods c.args.self.now.whole path c.args.mark marks fits (λ plus. absurd (omega arith))) after
