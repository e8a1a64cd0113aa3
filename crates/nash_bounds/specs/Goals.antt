-- A pair to be reached, and who could reach it with the next good.
use Rattle.std.specs.Prelude.{◌≡◌, ℕ, ◌+◌, ◌-◌, ◌*◌, ◌^◌, ◌<◌, ◌≤◌, ◌++◌, ◌∷◌, [], ◌==◌, List, Bool, false, cond, ◌⊎◌}
use Rattle.bid_rules.specs.declared.goods.GoodsCase.{GoodsCase}
use Rattle.bid_rules.specs.declared.pair.Pair.{Pair}
use Rattle.bid_rules.specs.Goods.{player_count}
use Rattle.bid_rules.specs.Pairs.{IsLess, is_at_most, is_less}
use Rattle.nash_bounds.specs.declared.contenders.Contenders.{Contenders}
use Rattle.nash_bounds.specs.declared.goals.Goal.{Goal}
use Rattle.nash_bounds.specs.declared.limits.TheConstants.{UNIT_BITS}
use Rattle.nash_bounds.specs.FarLanes.{lane_bit}
use Rattle.nash_bounds.specs.Prefixes.{prefix_bound}

-- the second pair reaches the goal: it is at least the goal, or above it if that is asked for
abbrev pub is_reached : Pair → Bool → Pair → Bool
is_reached goal beyond pair = cond beyond (is_less goal pair) (is_at_most goal pair)

-- the goal's product holds at least this many whole units of a power of two, and few enough of them to be multiplied safely
pub record IsGoal (goal : Goal) : Type 0 where
  pub shift : goal.shift < 128
  pub within : goal.units * 2 ^ goal.shift ≤ goal.pair.product
  pub few : goal.units < 2 ^ UNIT_BITS

-- this is more units than the product has, or more than the goal has
abbrev pub IsAbove : Goal → ℕ → ℕ → Type 0
IsAbove goal product units = (product < units * 2 ^ goal.shift) ⊎ (goal.units < units)

-- the owner's bit is set
abbrev pub is_contender : Contenders → ℕ → Bool
is_contender contenders owner = lane_bit contenders.owners (owner - 1) == 1

-- each player who isn't a contender would leave a bound below the pair by getting the next good
abbrev pub AreContenders : GoodsCase → List ℕ → Pair → Contenders → Type 0
AreContenders case owners pair contenders = (owner : ℕ) → 1 ≤ owner → owner ≤ player_count case → is_contender contenders owner ≡ false
    → IsLess (prefix_bound case (owners ++ owner ∷ [])) pair

-- even with this many points spread over the entries at a level, their product stays below the goal's, since it grows by at most (2 * level + spare)
-- / (2 * level - spare)
abbrev pub IsShort : ℕ → ℕ → ℕ → Goal → Type 0
IsShort level spare product goal =
    (spare < 2 * level) × (units : ℕ) × IsAbove goal product units × (units * (2 * level + spare) < goal.units * (2 * level - spare))
