-- What the players have while goods move one by one.
use Rattle.std.specs.Prelude.{◌≡◌, ℕ, List, [], ◌∷◌, ◌+◌, ◌<◌, ◌≤◌, cond, ◌==◌, ◌&&◌, ◌||◌, not, Bool, true, false, ◌⊎◌, sum_by}
use Rattle.std.specs.List.{range_with_len}
use Rattle.bid_rules.specs.declared.goods.GoodsCase.{GoodsCase}
use Rattle.winner_definition.specs.Winners.{first_owner, greater_points, lesser_points, may_move, moves_before}

-- the good that moved last, or 0 if none has moved
abbrev pub latest : List ℕ → ℕ
latest [] = 0
latest (good ∷ moved) = good

-- whether the player has given the good up, by the good that they gave up last, or 0 if there is none
abbrev pub is_gone : GoodsCase → ℕ → ℕ → ℕ → Bool
is_gone case player last good = not (last == 0) && may_move case player good && ((good == last) || moves_before case good last)

-- the points that the player still has from the good
abbrev pub kept_points : GoodsCase → ℕ → ℕ → ℕ → ℕ
kept_points case player last good = cond ((first_owner case good == player) && not (is_gone case player last good)) (greater_points case good) 0

-- the points that the other player has from the good
abbrev pub gained_points : GoodsCase → ℕ → ℕ → ℕ → ℕ
gained_points case player last good = cond (first_owner case good == player) (cond (is_gone case player last good) (lesser_points case good) 0) (greater_points case good)

-- the player has more points than the other after giving up goods up to this one, and these are the points of both
pub record IsRicher (case : GoodsCase) (player last rich poor : ℕ) : Type 0 where
  pub either : (player ≡ 1) ⊎ (player ≡ 2)
  pub there : (last ≡ 0) ⊎ ((1 ≤ last) × (last ≤ case.facts.goods) × (may_move case player last ≡ true))
  pub kept : rich ≡ sum_by (kept_points case player last) (range_with_len 1 case.facts.goods)
  pub gained : poor ≡ sum_by (gained_points case player last) (range_with_len 1 case.facts.goods)
  pub more : poor < rich

-- of the first few goods this one is next for the player to give up, or 0 if none is left
pub record IsNextOf (case : GoodsCase) (player last count next : ℕ) : Type 0 where
  pub within : next ≤ count
  pub may : 0 < next → (may_move case player next ≡ true) × (is_gone case player last next ≡ false)
  pub least : (good : ℕ) → 1 ≤ good → good ≤ count → may_move case player good ≡ true → is_gone case player last good ≡ false → (0 < next) × ((good ≡ next) ⊎ (moves_before case next good ≡ true))

-- the next good is the last to move, whole or in part, since then both players have the same points
pub record IsLast (case : GoodsCase) (player last rich poor next : ℕ) : Type 0 where
  pub richer : IsRicher case player last rich poor
  pub first : IsNextOf case player last case.facts.goods next
  pub some : 1 ≤ next
  pub ends : rich ≤ poor + greater_points case next + lesser_points case next
