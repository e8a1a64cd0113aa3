-- The adjusted winner's division (Brams and Taylor 1996): each good goes to the player who gives it more points, then goods move from the richer player to the
-- poorer in rising ratio until both have the same points.
use Rattle.std.specs.Prelude.{◌≡◌, ℕ, ◌-◌, ◌*◌, ◌≤◌, List, map, min, max, cond, nat_lt, nat_le, ◌==◌, ◌&&◌, ◌||◌, Bool, true, ◌⊎◌}
use Rattle.std.specs.List.{range_with_len}
use Rattle.bid_rules.specs.declared.goods.GoodsCase.{GoodsCase}
use Rattle.bid_rules.specs.Goods.{points}
use Rattle.winner_definition.specs.Divisions.{IsEquitable}

-- who has the good at first: the player who gives it more points, and player 1 if both give it the same
abbrev pub first_owner : GoodsCase → ℕ → ℕ
first_owner case good = cond (nat_le (points case 2 good) (points case 1 good)) 1 2

-- the points that its first owner gives the good
abbrev pub greater_points : GoodsCase → ℕ → ℕ
greater_points case good = max (points case 1 good) (points case 2 good)

-- the points that the other player gives the good
abbrev pub lesser_points : GoodsCase → ℕ → ℕ
lesser_points case good = min (points case 1 good) (points case 2 good)

-- whether the player may give the good up: they have it at first, and the other player gives it points
abbrev pub may_move : GoodsCase → ℕ → ℕ → Bool
may_move case player good = (first_owner case good == player) && nat_lt 0 (lesser_points case good)

-- whether the first good moves before the second: the ratio of its greater points to its lesser ones is lower, or it is the same and the number of the good is
-- lower
abbrev pub moves_before : GoodsCase → ℕ → ℕ → Bool
moves_before case good other =
    nat_lt (greater_points case good * lesser_points case other) (greater_points case other * lesser_points case good)
    || ((greater_points case good * lesser_points case other == greater_points case other * lesser_points case good) && nat_lt good other)

-- the parts of the good that its first owner has given up, once this many parts of the last good and all goods before it have moved
abbrev pub given_up : GoodsCase → ℕ → ℕ → ℕ → ℕ → ℕ
given_up case parts last moved good =
    cond (good == last) moved (cond (may_move case (first_owner case last) good && moves_before case good last) parts 0)

-- the parts of the good that the player then has
abbrev pub share_after : GoodsCase → ℕ → ℕ → ℕ → ℕ → ℕ → ℕ
share_after case parts last moved player good =
    cond (first_owner case good == player) (parts - given_up case parts last moved good) (given_up case parts last moved good)

-- the parts of the good that the player has before any good moves
abbrev pub share_at_first : GoodsCase → ℕ → ℕ → ℕ → ℕ
share_at_first case parts player good = cond (first_owner case good == player) parts 0

-- no good moves, and the weights are 1 and 1
pub record IsUnmoved (case : GoodsCase) (parts : ℕ) (held : List ℕ) (first second : ℕ) : Type 0 where
  pub shares : held ≡ map (share_at_first case parts 1) (range_with_len 1 case.facts.goods)
  pub first_weight : first ≡ 1
  pub second_weight : second ≡ 1

-- goods have moved, the last of them whole or in part; the weights are the points that player 2 and player 1 give the last good
pub record IsMoved (case : GoodsCase) (parts : ℕ) (held : List ℕ) (first second : ℕ) : Type 0 where
  pub last : ℕ
  pub low : 1 ≤ last
  pub high : last ≤ case.facts.goods
  pub may : may_move case (first_owner case last) last ≡ true
  pub moved : ℕ
  pub some : 1 ≤ moved
  pub within : moved ≤ parts
  pub shares : held ≡ map (share_after case parts last moved 1) (range_with_len 1 case.facts.goods)
  pub first_weight : first ≡ points case 2 last
  pub second_weight : second ≡ points case 1 last

-- the adjusted winner's division and its weights: goods move until both players have the same points
pub record IsWinner (case : GoodsCase) (parts : ℕ) (held : List ℕ) (first second : ℕ) : Type 0 where
  pub some : 1 ≤ parts
  pub equal : IsEquitable case parts held
  pub by_rule : IsUnmoved case parts held first second ⊎ IsMoved case parts held first second
