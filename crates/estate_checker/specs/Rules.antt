-- The nine rules of an estate's certificate. They show that its owners are the best division.
use Rattle.std.specs.Prelude.{ℕ, pos, ◌≤ℤ◌, List, [], ◌∷◌, All, drop, map, take, unsigned_abs}
use Rattle.bid_rules.specs.Goods.{player_count, utilities}
use Rattle.bid_rules.specs.Pairs.{positives}
use Rattle.estate_bounds.specs.Counts.{IsShort}
use Rattle.estate_bounds.specs.declared.limits.TheConstants.{MOST_PRICE}
use Rattle.estate_checker.specs.declared.limits.TheConstants.{MOST_ESTATE_STEPS}
use Rattle.estate_checker.specs.Printed.{printed_answer, printed_case}
use Rattle.estate_judge.specs.declared.leaf.TheConstants.{ANSWER_RULE, CLOSED_RULE, SHAPE_RULE, TWIN_RULE, WHOLE_RULE}
use Rattle.estate_judge.specs.declared.limits.TheConstants.{MOST_WEIGHT}
use Rattle.estate_judge.specs.declared.node.Node.{Node}
use Rattle.estate_judge.specs.Leaves.{KeepsRule}
use Rattle.estate_judge.specs.Nodes.{AreNodes, IsInner}
use Rattle.estate_texts.specs.Given.{GivenLine, Prices, Weights}
use Rattle.estate_texts.specs.Texts.{EstateView, limit_of, owners_of, short_of, values_of, who_of}
use Rattle.prefix_trees.specs.Leaves.{AnyLeaf, HasLeaf}
use Rattle.prefix_trees.specs.Tree.{IsTree}
use Rattle.rule_verdicts.specs.PrintedGoods.{ArePrintedGoods}
use Rattle.rule_verdicts.specs.Ranges.{AreBetween}
use Rattle.rule_verdicts.specs.Verdicts.{rule_at}

-- rule 1: the limit is in range, and the printed numbers are a valid case: members from 1 to 12 in rising order, and for each player points that sum to 1000
pub record HasCase (view : EstateView) : Type 0 where
  pub limit : (pos 1 ≤ℤ limit_of view) × (limit_of view ≤ℤ pos MOST_ESTATE_STEPS)
  pub printed : ArePrintedGoods view.goods 1 (who_of view) (values_of view)

-- rule 2: each good has an owner, who is one of the players
abbrev pub HasOwners : EstateView → Type 0
HasOwners view = AreBetween 1 view.players (owners_of view)

-- rules 3 and 6 to 9: the printed marks and lines are those of nodes in order, which are one tree, and the rule with this number holds of each of its leaves
pub record HasTree (view : EstateView) (number : ℕ) : Type 0 where
  pub nodes : List Node
  pub are_nodes : AreNodes view.players view.marks view.given nodes
  pub tree : IsTree IsInner AnyLeaf (player_count (printed_case view)) view.goods nodes
  pub leaves : (owners : List ℕ) (above : List Node) (node : Node) → HasLeaf IsInner (printed_case view) nodes owners above node
      → KeepsRule (printed_case view) (printed_answer view) number owners above node

-- the numbers of a line are in range: weights from 1 to 65535, rates from 1 to 2^24 - 1, and fees from 0 to 2^24 - 1
abbrev pub IsInRange : ℕ → GivenLine → Type 0
IsInRange players (Weights numbers) = AreBetween 1 MOST_WEIGHT numbers
IsInRange players (Prices numbers) = AreBetween 1 MOST_PRICE (take players numbers) × AreBetween 0 MOST_PRICE (drop players numbers)

-- rule 4: the numbers of all lines of weights and prices are in range
abbrev pub HasRanges : EstateView → Type 0
HasRanges view = All (IsInRange view.players) view.given

-- rule 5: the printed players want so few goods that no more players can have points than in the answer
pub record HasShort (view : EstateView) : Type 0 where
  pub players : AreBetween 1 view.players (short_of view)
  pub short : IsShort (printed_case view) (map unsigned_abs (short_of view)) (positives (utilities (printed_case view) (printed_answer view)))

-- the nine rules of an estate's certificate, in order. The number of steps is not judged
abbrev pub rules_of_estate : EstateView → List (Type 0)
rules_of_estate view =
    HasCase view ∷ HasOwners view ∷ HasTree view SHAPE_RULE ∷ HasRanges view ∷ HasShort view ∷ HasTree view CLOSED_RULE ∷ HasTree view WHOLE_RULE
    ∷ HasTree view ANSWER_RULE ∷ HasTree view TWIN_RULE ∷ []

-- the rule of an estate with this number, counted from 1
abbrev pub estate_rule : EstateView → ℕ → Type 0
estate_rule view number = rule_at (rules_of_estate view) number
