-- Alike players, and twins of a prefix: other owners of the same goods with which everybody does at least as well, so that no allocation that begins with the
-- prefix is the best.
use Rattle.std.specs.Prelude.{◌≡◌, ℕ, ◌<◌, ◌≤◌, List, length, ◌⊎◌}
use Rattle.std.specs.Cmp.Lexicographic.{slice_cmp}
use Rattle.std.specs.Ordering.{nat_cmp}
use Rattle.std.specs.declared.cmp.Ordering.TheVariants.{Less}
use Rattle.bid_rules.specs.declared.goods.GoodsCase.{GoodsCase}
use Rattle.bid_rules.specs.Goods.{AreOwners, player_count, points}
use Rattle.nash_bounds.specs.Lanes.{has}

-- a player's number
abbrev pub IsPlayer : GoodsCase → ℕ → Type 0
IsPlayer case player = (1 ≤ player) × (player ≤ player_count case)

-- two players are alike: they give each good the same points
abbrev pub AreAlike : GoodsCase → ℕ → ℕ → Type 0
AreAlike case player other = (good : ℕ) → 1 ≤ good → good ≤ case.facts.goods → points case player good ≡ points case other good

-- alike players exchange their names: each takes the name of a player who is alike, and no two take the same
pub record IsRenaming (case : GoodsCase) (names : ℕ → ℕ) : Type 0 where
  pub player : (player : ℕ) → IsPlayer case player → IsPlayer case (names player)
  pub alike : (player : ℕ) → IsPlayer case player → AreAlike case player (names player)
  pub apart : (player other : ℕ) → IsPlayer case player → IsPlayer case other → names player ≡ names other → player ≡ other

-- under their new names, some player has more with the first owners than with the second
abbrev pub GivesMore : GoodsCase → (ℕ → ℕ) → List ℕ → List ℕ → Type 0
GivesMore case names twin owners = (player : ℕ) × IsPlayer case player × (has case owners player < has case twin (names player))

-- a twin of the owners of the first few goods: other owners of the same goods with which, up to the names of alike players, each player has at least as many
-- points. It is the earlier list, or gives some player more
pub record IsTwin (case : GoodsCase) (twin owners : List ℕ) : Type 0 where
  pub owned : AreOwners case twin
  pub same : length twin ≡ length owners
  pub names : ℕ → ℕ
  pub renames : IsRenaming case names
  pub each : (player : ℕ) → IsPlayer case player → has case owners player ≤ has case twin (names player)
  pub better : (slice_cmp nat_cmp twin owners ≡ Less) ⊎ GivesMore case names twin owners
