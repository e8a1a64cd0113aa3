-- The six rules that a certificate of goods keeps. They show that its owners are the best (Caragiannis and others 2016).
use Rattle.std.specs.Prelude.{◌≡◌, ℕ, zero, suc, pos, ◌<◌, ◌≤◌, ◌≤ℤ◌, List, [], ◌∷◌, length, All, true}
use Rattle.bid_rules.specs.declared.goods.GoodsCase.{GoodsCase}
use Rattle.bid_rules.specs.Goods.{IsValidGoodsCase, player_count}
use Rattle.cert_reader.specs.GoodsViews.{GoodsView}
use Rattle.cert_reader.specs.declared.marks.TheConstants.{ANSWER_LEAF, LEFT_OUT}
use Rattle.nash_bounds.specs.LeftOut.{may_be_left}
use Rattle.goods_rules.specs.Printed.{printed_answer, printed_case}
use Rattle.goods_rules.specs.Tree.{IsTree}
use Rattle.rule_verdicts.specs.Verdicts.{rule_at}

-- rule 1: the printed numbers are 0 or more, and they are a valid case: a limit in range, members from 1 to 12 in rising order, and for each player points
-- that sum to 1000
pub record HasCase (view : GoodsView) : Type 0 where
  pub limit : pos 0 ≤ℤ view.limit
  pub who : All (λ member. pos 0 ≤ℤ member) view.who
  pub values : All (λ row. All (λ points. pos 0 ≤ℤ points) row) view.values
  pub valid : IsValidGoodsCase (printed_case view)

-- rule 2: each good has an owner, who is one of the players
pub record HasOwners (view : GoodsView) : Type 0 where
  pub each : length view.owners ≡ view.goods
  pub owned : All (λ owner. (pos 1 ≤ℤ owner) × (owner ≤ℤ pos (length view.who))) view.owners

-- what a rule asks of a leaf: rule 4 asks that a `-` with goods still to give comes only where no allocation that begins with the prefix comes
-- before the answer; rule 5 asks the same of a `-` where all goods are given; rule 6 asks that a `=` is at the answer
abbrev pub leaf_rule : GoodsCase → List ℕ → ℕ → List ℕ → ℕ → Type 0
leaf_rule case answer zero prefix mark = Unit {0}
leaf_rule case answer (suc zero) prefix mark = Unit {0}
leaf_rule case answer (suc (suc zero)) prefix mark = Unit {0}
leaf_rule case answer (suc (suc (suc zero))) prefix mark = Unit {0}
leaf_rule case answer (suc (suc (suc (suc zero)))) prefix mark = mark ≡ LEFT_OUT → length prefix < case.facts.goods → may_be_left case answer prefix ≡ true
leaf_rule case answer (suc (suc (suc (suc (suc zero))))) prefix mark = mark ≡ LEFT_OUT → case.facts.goods ≤ length prefix → may_be_left case answer prefix ≡ true
leaf_rule case answer (suc (suc (suc (suc (suc (suc number)))))) prefix mark = mark ≡ ANSWER_LEAF → prefix ≡ answer

-- the marks are one tree, and the rule with this number holds of its leaves
abbrev pub IsRuledTree : GoodsCase → List ℕ → ℕ → List ℕ → Type 0
IsRuledTree case answer number marks = IsTree (leaf_rule case answer number) (player_count case) case.facts.goods marks

-- rules 3 to 6: the printed marks are one tree, and the rule with this number holds of its leaves
abbrev pub HasTree : GoodsView → ℕ → Type 0
HasTree view number = IsRuledTree (printed_case view) (printed_answer view) number view.marks

-- the six rules of a certificate of goods, in order. The number of steps is not judged
abbrev pub rules_of_goods : GoodsView → List (Type 0)
rules_of_goods view = HasCase view ∷ HasOwners view ∷ HasTree view 3 ∷ HasTree view 4 ∷ HasTree view 5 ∷ HasTree view 6 ∷ []

-- the rule of goods with this number, counted from 1
abbrev pub goods_rule : GoodsView → ℕ → Type 0
goods_rule view number = rule_at (rules_of_goods view) number
