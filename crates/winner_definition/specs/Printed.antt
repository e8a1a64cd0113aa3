-- The rule of adjusted winner on printed fractions: how shares, a total and weights show a division of goods between two players.
use Rattle.std.specs.Prelude.{◌≡◌, ℕ, pos, ◌*◌, ◌<◌, ◌≤◌, ◌<ℤ◌, ◌≤ℤ◌, ◌*ℤ◌, ◌-ℤ◌, List, length, map, All}
use Rattle.std.specs.List.{range_with_len}
use Rattle.bid_rules.specs.declared.limits.TheConstants.{WHOLE_POINTS}
use Rattle.bid_rules.specs.declared.goods.GoodsCase.{GoodsCase}
use Rattle.bid_rules.specs.Fractions.{Fraction, HasSameValue, sum_of_fractions}
use Rattle.bid_rules.specs.Goods.{points}
use Rattle.winner_definition.specs.Divisions.{IsEfficient, IsEnvyFree, IsEquitable}
use Rattle.winner_definition.specs.Shown.{AreShares, HasOneSplit, share_of}

-- the share of a good is from 0 to 1
abbrev pub IsShare : Fraction → Type 0
IsShare share = (0 < share.1) × (pos 0 ≤ℤ share.0) × (share.0 ≤ℤ pos share.1)

-- each good has a share from 0 to 1, which is player 1's, and at most one share is strictly between
pub record AreProperShares (case : GoodsCase) (shares : List Fraction) : Type 0 where
  pub each : length shares ≡ case.facts.goods
  pub within : All IsShare shares
  pub one_split : HasOneSplit shares

-- what player 1's share of a good is worth to player 1
abbrev pub first_worth : GoodsCase → List Fraction → ℕ → Fraction
first_worth case shares good = ((share_of shares good).0 *ℤ pos (points case 1 good), (share_of shares good).1)

-- what the rest of the good is worth to player 2
abbrev pub second_worth : GoodsCase → List Fraction → ℕ → Fraction
second_worth case shares good = ((pos (share_of shares good).1 -ℤ (share_of shares good).0) *ℤ pos (points case 2 good), (share_of shares good).1)

-- what the shares of all goods are worth to player 1
abbrev pub first_total : GoodsCase → List Fraction → Fraction
first_total case shares = sum_of_fractions (map (first_worth case shares) (range_with_len 1 case.facts.goods))

-- what the rest of all goods is worth to player 2
abbrev pub second_total : GoodsCase → List Fraction → Fraction
second_total case shares = sum_of_fractions (map (second_worth case shares) (range_with_len 1 case.facts.goods))

-- this total is what each player has
pub record HaveTotal (case : GoodsCase) (shares : List Fraction) (total : Fraction) : Type 0 where
  pub positive : 0 < total.1
  pub first : HasSameValue (first_total case shares) total
  pub second : HasSameValue (second_total case shares) total

-- the weights are from 1 to 1000, and under them each good is with the player to whom it is worth most: if player 1 has some of it, it is worth no less to
-- player 1, and if player 1 has not all of it, it is worth no less to player 2
pub record SupportShares (case : GoodsCase) (shares : List Fraction) (first second : ℕ) : Type 0 where
  pub first_low : 1 ≤ first
  pub first_high : first ≤ WHOLE_POINTS
  pub second_low : 1 ≤ second
  pub second_high : second ≤ WHOLE_POINTS
  pub had : (good : ℕ) → 1 ≤ good → good ≤ case.facts.goods → pos 0 <ℤ (share_of shares good).0 → second * points case 2 good ≤ first * points case 1 good
  pub left : (good : ℕ) → 1 ≤ good → good ≤ case.facts.goods → (share_of shares good).0 <ℤ pos (share_of shares good).1
      → first * points case 1 good ≤ second * points case 2 good

-- the shares are those of a division that is equitable, envy-free and efficient, and at most one good is split
pub record AreFairShares (case : GoodsCase) (shares : List Fraction) : Type 0 where
  pub parts : ℕ
  pub held : List ℕ
  pub are_shares : AreShares case shares parts held
  pub equitable : IsEquitable case parts held
  pub envy_free : IsEnvyFree case parts held
  pub efficient : IsEfficient case parts held
