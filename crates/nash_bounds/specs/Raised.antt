-- When entries are raised as high as a bound asks.
use Rattle.std.specs.Prelude.{◌≡◌, ℕ, ◌≤◌, List, sum, ◌⊎◌}
use Rattle.bid_rules.specs.declared.limits.TheConstants.{WHOLE_POINTS}
use Rattle.nash_bounds.specs.Levels.{entries_at_level}

-- entries filled to this level use up the top, or all of them are as high as they may be within the top
abbrev pub Reaches : List ℕ → List ℕ → ℕ → ℕ → ℕ → Type 0
Reaches low high top level extra = (level ≤ WHOLE_POINTS) × ((sum (entries_at_level level extra low high) ≡ top) ⊎ ((entries_at_level level extra low high ≡ high) × (sum high ≤ top)))
