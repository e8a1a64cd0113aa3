-- What was read of the text of an estate, while it is judged.
use Rattle.std.specs.Prelude.{◌≡◌, ℕ, ◌↔◌, List, IsTrue, map}
use Rattle.estate_checker.specs.Printed.{printed_answer, printed_case}
use Rattle.estate_checker.specs.Rules.{HasTree}
use Rattle.estate_judge.specs.declared.ground.Ground.{Ground}
use Rattle.estate_judge.specs.declared.node.Node.{Node}
use Rattle.estate_judge.specs.Grounds.{IsGround}
use Rattle.estate_texts.specs.declared.text.EstateText.{EstateText}
use Rattle.estate_texts.specs.Given.{GivenLine, given_content}
use Rattle.estate_texts.specs.Lines.{lines_text}
use Rattle.estate_texts.specs.Steps.{view_of_text}
use Rattle.estate_texts.specs.Texts.{CanSayEstate, EstateView}
use Rattle.prefix_trees.specs.declared.walk.Walk.{Walk}
use Rattle.prefix_trees.specs.Ahead.{has_tree}

-- what was read is what a text can say, with these lines of weights and prices
pub record IsSaid (text : EstateText) (given : List GivenLine) : Type 0 where
  pub can : CanSayEstate (view_of_text text given)
  pub lines : text.given.now ≡ lines_text (map given_content given)

-- leaves are judged by the printed case and its printed division
pub record IsGroundOf (view : EstateView) (ground : Ground) : Type 0 where
  pub is_ground : IsGround ground
  pub is_case : ground.case ≡ printed_case view
  pub is_answer : ground.owners.items ≡ printed_answer view

-- a walk through the printed tree knows which of the rules on it hold
abbrev pub KnowsTree : EstateView → Walk Node → Type 0
KnowsTree view walk = (number : ℕ) → IsTrue (has_tree walk number) ↔ HasTree view number
