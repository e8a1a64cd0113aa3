-- What the judge of goods knows after the lines before the tree and some of its marks.
use Rattle.std.specs.Prelude.{◌≡◌, ◌⊎◌, ℕ, ◌++◌, ◌↔◌, List, IsTrue, zero, suc}
use Rattle.cert_reader.specs.GoodsViews.{GoodsView}
use Rattle.goods_rules.specs.declared.answer.Answer.{Answer}
use Rattle.goods_rules.specs.declared.state.GoodsState.{GoodsState}
use Rattle.goods_rules.specs.declared.state.GoodsState.TheVariants.{Broken, Walking}
use Rattle.goods_rules.specs.declared.walk.Walk.{Walk}
use Rattle.goods_rules.specs.Ahead.{IsLeft, holds_so_far}
use Rattle.goods_rules.specs.Path.{IsGoodsAnswer, IsWalk}
use Rattle.goods_rules.specs.Printed.{printed_answer, printed_case}
use Rattle.goods_rules.specs.Rules.{HasCase, HasOwners, IsRuledTree}

-- an answer, and a walk through its tree
abbrev pub IsState : GoodsState → Type 0
IsState (Broken rule) = Unit {0}
IsState (Walking answer walk) = IsGoodsAnswer answer × IsWalk answer.case answer.goal.pair walk

-- the printed case and answer are these, and for each rule: it holds of a whole tree that begins with the marks taken exactly when it holds so far and the
-- marks to come finish the tree under it
pub record IsWalked (view : GoodsView) (taken : List ℕ) (answer : Answer) (walk : Walk) : Type 0 where
  pub case : HasCase view
  pub owners : HasOwners view
  pub is_case : answer.case ≡ printed_case view
  pub is_answer : answer.owners.items ≡ printed_answer view
  pub left : (number : ℕ) (marks : List ℕ) → IsRuledTree answer.case answer.owners.items number (taken ++ marks) ↔ IsLeft answer.case answer.owners.items walk number marks

-- the text prints no case, or some good has no owner; or the walk is that of the marks taken
abbrev pub StandsFor : GoodsView → List ℕ → GoodsState → Type 0
StandsFor view taken (Broken rule) = ((rule ≡ 1) × (HasCase view → ⊥)) ⊎ ((rule ≡ 2) × HasCase view × (HasOwners view → ⊥))
StandsFor view taken (Walking answer walk) = IsWalked view taken answer walk

-- what a walk that has taken all marks says about the rule with this number
abbrev pub walk_rule : Walk → ℕ → Type 0
walk_rule walk zero = Unit {0}
walk_rule walk (suc zero) = Unit {0}
walk_rule walk (suc (suc zero)) = Unit {0}
walk_rule walk (suc (suc (suc number))) = IsTrue (holds_so_far walk.kept (suc (suc (suc number)))) × IsTrue walk.whole
