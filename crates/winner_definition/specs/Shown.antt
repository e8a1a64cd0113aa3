-- For the laws of adjusted winner: what shows that a division is equitable, envy-free and efficient, in fractions.
use Rattle.std.specs.Prelude.{◌≡◌, ℕ, pos, ◌-◌, ◌≤◌, ◌<ℤ◌, List, length, slice_index_or}
use Rattle.std.specs.List.{AllZip}
use Rattle.bid_rules.specs.declared.goods.GoodsCase.{GoodsCase}
use Rattle.bid_rules.specs.Fractions.{Fraction, IsQuotient}
use Rattle.winner_definition.specs.Divisions.{AreWeights, IsDivision, first_points, second_points}

-- player 1's share of a good, which is 0 for a good that is not there
abbrev pub share_of : List Fraction → ℕ → Fraction
share_of shares good = slice_index_or shares (good - 1) (pos 0, 1)

-- the good is split: player 1's share is strictly between 0 and 1
abbrev pub IsSplit : List Fraction → ℕ → Type 0
IsSplit shares good = (pos 0 <ℤ (share_of shares good).0) × ((share_of shares good).0 <ℤ pos (share_of shares good).1)

-- at most one good is split
abbrev pub HasOneSplit : List Fraction → Type 0
HasOneSplit shares = (good other : ℕ) → 1 ≤ good → good ≤ length shares → 1 ≤ other → other ≤ length shares → IsSplit shares good → IsSplit shares other → good ≡ other

-- the shares are those of a division, and at most one good is split
pub record AreShares (case : GoodsCase) (shares : List Fraction) (parts : ℕ) (held : List ℕ) : Type 0 where
  pub division : IsDivision case parts held
  pub quotients : AllZip (λ share part. IsQuotient share (pos part) parts) shares held
  pub one_split : HasOneSplit shares

-- the division gives each player this total
pub record AreTotals (case : GoodsCase) (parts : ℕ) (held : List ℕ) (total : Fraction) : Type 0 where
  pub first : IsQuotient total (pos (first_points case held)) parts
  pub second : IsQuotient total (pos (second_points case parts held)) parts

-- the shares, the total and the weights are all those of one division
pub record IsShown (case : GoodsCase) (shares : List Fraction) (total : Fraction) (first second : ℕ) : Type 0 where
  pub parts : ℕ
  pub held : List ℕ
  pub are_shares : AreShares case shares parts held
  pub are_totals : AreTotals case parts held total
  pub are_weights : AreWeights case parts held first second
