-- The lanes at one level, from which it follows who could reach a pair by getting the next good.
use Rattle.std.specs.Prelude.{◌≡◌, ℕ, ◌+◌, ◌≤◌, List, [], ◌∷◌, length, slice_index, sum, All}
use Rattle.std.specs.List.{AllZip}
use Rattle.bid_rules.specs.Pairs.{positives, product}
use Rattle.nash_bounds.specs.Levels.{entry_at}
use Rattle.nash_bounds.specs.declared.fitting.Fitting.{Fitting}
use Rattle.nash_bounds.specs.declared.lanes.Lanes.{Lanes}
use Rattle.nash_bounds.specs.declared.reach.Flat.{Flat}
use Rattle.bid_rules.specs.declared.limits.TheConstants.{MEMBER_ROOM, WHOLE_POINTS}
use Rattle.nash_bounds.specs.declared.limits.TheConstants.{LANES}

-- all entries at a level
abbrev pub entries_at : ℕ → List ℕ → List ℕ → List ℕ
entries_at level [] highs = []
entries_at level (low ∷ lows) [] = []
entries_at level (low ∷ lows) (high ∷ highs) = entry_at level low high ∷ entries_at level lows highs

-- lows and highs of all lanes: each low is at most its high, each high at most all points of a player, lanes without a player have nothing, and the
-- lows together are at most the top
pub record IsSpan (lanes : Lanes) : Type 0 where
  pub lows : length lanes.low ≡ LANES
  pub highs : length lanes.high ≡ LANES
  pub in_order : AllZip ◌≤◌ lanes.low lanes.high
  pub small : All (λ most. most ≤ WHOLE_POINTS) lanes.high
  pub rest : (k : ℕ) → MEMBER_ROOM ≤ k → slice_index lanes.high k ≡ 0
  pub within : sum lanes.low ≤ lanes.top

-- the entries at a level, and how much of the top they leave over
pub record IsFitting (lanes : Lanes) (at : Fitting) : Type 0 where
  pub most : at.level ≤ WHOLE_POINTS
  pub is_entries : at.entries ≡ entries_at at.level lanes.low lanes.high
  pub is_spare : sum (entries_at at.level lanes.low lanes.high) + at.spare ≡ lanes.top

-- the entries at a level, how much of the top they leave over, how many lanes may have points, and the product of the entries
pub record IsFlat (lanes : Lanes) (flat : Flat) : Type 0 where
  pub most : flat.level ≤ WHOLE_POINTS
  pub is_entries : flat.entries ≡ entries_at flat.level lanes.low lanes.high
  pub is_spare : sum (entries_at flat.level lanes.low lanes.high) + flat.spare ≡ lanes.top
  pub is_open : flat.open_lanes ≡ positives lanes.high
  pub is_product : flat.product ≡ product (entries_at flat.level lanes.low lanes.high)
