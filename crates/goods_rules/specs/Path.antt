-- The path to a node, and what the marks of the tree are judged by.
use Rattle.std.specs.Prelude.{◌≡◌, ℕ, ◌<◌, ◌≤◌, List, [], length, take, slice_index_or, true}
use Rattle.bid_rules.specs.declared.goods.GoodsCase.{GoodsCase}
use Rattle.bid_rules.specs.declared.pair.Pair.{Pair}
use Rattle.bid_rules.specs.Goods.{AreOwners, IsAllocation, IsValidGoodsCase, pair_of}
use Rattle.nash_bounds.specs.Goals.{AreContenders, IsGoal}
use Rattle.nash_bounds.specs.Lanes.{IsFork, IsLaneTable}
use Rattle.goods_rules.specs.declared.answer.Answer.{Answer}
use Rattle.goods_rules.specs.declared.parent.Parent.{Parent}
use Rattle.goods_rules.specs.declared.path.Path.{Path}
use Rattle.goods_rules.specs.declared.walk.Walk.{Walk}

-- a valid case with its table, an allocation of it, and the pair of this allocation as the goal
pub record IsGoodsAnswer (answer : Answer) : Type 0 where
  pub valid : IsValidGoodsCase answer.case
  pub table : IsLaneTable answer.case answer.table
  pub allocation : IsAllocation answer.case answer.owners.items
  pub goal : IsGoal answer.goal
  pub pair : answer.goal.pair ≡ pair_of answer.case answer.owners.items

-- what each player has and may have with these owners without the next good, and which players could reach the pair with the next good
pub record IsParent (case : GoodsCase) (pair : Pair) (owners : List ℕ) (parent : Parent) : Type 0 where
  pub fork : IsFork case owners parent.lanes
  pub contenders : AreContenders case owners pair parent.contenders

-- owners of the first few goods, and for each shorter prefix of them, beginning with the empty one, what its children are judged by
pub record IsPath (case : GoodsCase) (pair : Pair) (path : Path) : Type 0 where
  pub short : length path.owners.items ≤ case.facts.goods
  pub owned : AreOwners case path.owners.items
  pub count : length path.parents.items ≡ length path.owners.items
  pub each : (k : ℕ) (other : Parent) → k < length path.owners.items → IsParent case pair (take k path.owners.items) (slice_index_or path.parents.items k other)

-- a path to a node; if the whole tree was read, the node is the root
pub record IsWalk (case : GoodsCase) (pair : Pair) (walk : Walk) : Type 0 where
  pub path : IsPath case pair walk.path
  pub ended : walk.whole ≡ true → walk.path.owners.items ≡ []
