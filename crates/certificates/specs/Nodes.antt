-- Nodes of a tree as the writer keeps them.
use Rattle.std.specs.Prelude.{◌≡◌, ◌≤◌, length}
use Rattle.bid_rules.specs.declared.goods.GoodsCase.{GoodsCase}
use Rattle.bid_rules.specs.Goods.{AreOwners, IsValidGoodsCase, pair_of}
use Rattle.nash_bounds.specs.Goals.{IsGoal}
use Rattle.nash_bounds.specs.Lanes.{IsLanes}
use Rattle.certificates.specs.declared.goods_answer.Answer.{Answer}
use Rattle.certificates.specs.declared.node.Node.{Node}

-- an owner for each good, and the pair of these owners as the goal
pub record IsAnswer (case : GoodsCase) (answer : Answer) : Type 0 where
  pub whole : length answer.owners.items ≡ case.facts.goods
  pub goal : IsGoal answer.goal
  pub pair : answer.goal.pair ≡ pair_of case answer.owners.items

-- owners of the first few goods of a valid case, and what each player has and may have with them
pub record IsNode (case : GoodsCase) (node : Node) : Type 0 where
  pub valid : IsValidGoodsCase case
  pub short : length node.owners.items ≤ case.facts.goods
  pub owned : AreOwners case node.owners.items
  pub lanes : IsLanes case node.owners.items node.lanes
