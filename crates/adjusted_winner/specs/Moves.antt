-- How far the solver has come with moving goods, by the good that moved last.
use Rattle.std.specs.Prelude.{◌≡◌, ℕ, ◌+◌, ◌<◌, ◌≤◌, List}
use Rattle.bid_rules.specs.declared.goods.GoodsCase.{GoodsCase}
use Rattle.bid_rules.specs.Goods.{points}
use Rattle.winner_definition.specs.Moving.{latest}
use Rattle.winner_definition.specs.Procedure.{HaveMoved, IsNextToMove, other_player}

-- goods have moved whole, this one last, or none if it is 0; and one player still has more points than the other
pub record MovedUpTo (case : GoodsCase) (richer last rich poor : ℕ) : Type 0 where
  pub moved : List ℕ
  pub at : last ≡ latest moved
  pub moves : HaveMoved case richer moved rich poor
  pub more : poor < rich

-- this good is the last to move, in whole or in part, since then both players have the same points
pub record IsLastToMove (case : GoodsCase) (richer rich poor last : ℕ) : Type 0 where
  pub moved : List ℕ
  pub moves : HaveMoved case richer moved rich poor
  pub more : poor < rich
  pub next : IsNextToMove case richer moved last
  pub ends : rich ≤ poor + points case (other_player richer) last + points case richer last
