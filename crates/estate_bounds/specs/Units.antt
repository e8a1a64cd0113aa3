-- Points counted in units, where the unit is the greatest number that divides the points of all players for all goods.
use Rattle.std.specs.Prelude.{ℕ, ◌/◌, List, Bool, All, map, ◌&&◌, ◌||◌}
use Rattle.std.specs.Int.{◌∣◌}
use Rattle.bid_rules.specs.declared.goods.GoodsCase.{GoodsCase}
use Rattle.bid_rules.specs.declared.pair.Pair.{Pair}
use Rattle.bid_rules.specs.Goods.{points, utilities}
use Rattle.bid_rules.specs.Pairs.{is_less, nash_welfare}
use Rattle.nash_bounds.specs.Levels.{bound_of}
use Rattle.nash_bounds.specs.LeftOut.{is_after, is_same}
use Rattle.nash_bounds.specs.Prefixes.{highest, top_of}

-- the number divides the first and all others, and every other number that does so divides it
pub record IsCommonDivisor (first : ℕ) (numbers : List ℕ) (divisor : ℕ) : Type 0 where
  pub of_first : divisor ∣ first
  pub of_each : All (λ number. divisor ∣ number) numbers
  pub greatest : (other : ℕ) → other ∣ first → All (λ number. other ∣ number) numbers → other ∣ divisor

-- the unit divides each player's points for each good, and every other number that does so divides the unit
pub record IsUnit (case : GoodsCase) (unit : ℕ) : Type 0 where
  pub divides : (player good : ℕ) → unit ∣ points case player good
  pub greatest : (other : ℕ) → ((player good : ℕ) → other ∣ points case player good) → other ∣ unit

-- the numbers in units
abbrev pub in_units : ℕ → List ℕ → List ℕ
in_units unit numbers = map (λ number. number / unit) numbers

-- the Nash welfare of owners, counted in units
abbrev pub unit_pair : GoodsCase → ℕ → List ℕ → Pair
unit_pair case unit owners = nash_welfare (in_units unit (utilities case owners))

-- the bound of these owners of the first few goods, counted in whole units
abbrev pub unit_bound : GoodsCase → ℕ → List ℕ → Pair
unit_bound case unit owners = bound_of (in_units unit (utilities case owners)) (in_units unit (highest case owners)) (top_of case owners / unit)

-- the owners may be left out: no allocation that begins with them can be better than the answer, since their bound in units is below the answer's pair, or
-- equal to it with owners that come after the answer's
unfoldable pub units_close : GoodsCase → ℕ → List ℕ → List ℕ → Bool
units_close case unit answer owners =
    is_less (unit_bound case unit owners) (unit_pair case unit answer)
    || (is_same (unit_bound case unit owners) (unit_pair case unit answer) && is_after answer owners)
