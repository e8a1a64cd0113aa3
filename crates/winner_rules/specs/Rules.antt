-- The four rules that the text of adjusted winner keeps. They show that its division is equitable, envy-free and efficient (Brams and Taylor 1996).
use Rattle.std.specs.Prelude.{◌≡◌, ℕ, pos, ◌≤ℤ◌, List, [], ◌∷◌, All, length}
use Rattle.bid_rules.specs.declared.goods.GoodsCase.{GoodsCase}
use Rattle.bid_rules.specs.declared.limits.TheConstants.{MOST_STEPS, PAIR}
use Rattle.bid_rules.specs.Goods.{IsValidGoodsCase}
use Rattle.winner_definition.specs.Printed.{AreProperShares, HaveTotal, SupportShares}
use Rattle.cert_reader.specs.Layout.{PairView}
use Rattle.rule_verdicts.specs.PrintedGoods.{printed_goods}
use Rattle.rule_verdicts.specs.Verdicts.{rule_at}

-- the case that the text prints, each number without its sign. The text does not say a step limit, so it is as great as it may be
abbrev pub printed_case : PairView → GoodsCase
printed_case view = printed_goods view.goods MOST_STEPS view.who view.values

-- rule 1: the printed numbers are 0 or more, and they form a valid case of two players: members from 1 to 12 in rising order, and for each player points that
-- sum to 1000
pub record HasCase (view : PairView) : Type 0 where
  pub two : length view.who ≡ PAIR
  pub who : All (λ member. pos 0 ≤ℤ member) view.who
  pub values : All (λ row. All (λ points. pos 0 ≤ℤ points) row) view.values
  pub valid : IsValidGoodsCase (printed_case view)

-- rule 4: the two printed weights support the shares
pub record HasWeights (view : PairView) : Type 0 where
  pub first : ℕ
  pub second : ℕ
  pub are : view.weights ≡ pos first ∷ pos second ∷ []
  pub support : SupportShares (printed_case view) view.shares first second

-- the four rules of the text of adjusted winner, in order
abbrev pub rules_of_winner : PairView → List (Type 0)
rules_of_winner view = HasCase view ∷ AreProperShares (printed_case view) view.shares ∷ HaveTotal (printed_case view) view.shares view.total ∷ HasWeights view ∷ []

-- the rule with this number, counted from 1
abbrev pub winner_rule : PairView → ℕ → Type 0
winner_rule view number = rule_at (rules_of_winner view) number
