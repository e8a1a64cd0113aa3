-- Finds lanes whose bound is below a pair, from their entries at one level.
use Rattle.std.specs.Prelude.{◌≡◌, ℕ, ◌+◌, ◌-◌, ◌*◌, ◌/◌, ◌%◌, ◌^◌, ◌<◌, ◌⊎◌, min, max}
use Rattle.bid_rules.specs.declared.pair.Pair.{Pair}
use Rattle.nash_bounds.specs.Levels.{entry_at}
use Rattle.nash_bounds.specs.declared.reach.Flat.{Flat}
use Rattle.nash_bounds.specs.declared.limits.TheConstants.{SHARES}

-- the bit of a lane: 1 or 0
abbrev pub lane_bit : ℕ → ℕ → ℕ
lane_bit bits lane = bits / 2 ^ lane % 2

-- with `after` in place of `before` among the entries, and `over` points spread over them, their product still stays below the whole: a product grows
-- by at most (2 * level + over) / (2 * level - over), and the entries' product is below `shares` of the whole
abbrev pub FallsShort : ℕ → ℕ → ℕ → ℕ → ℕ → Type 0
FallsShort level before after over shares = (over < 2 * level) × (max after 1 * (2 * level + over) * shares < max before 1 * (2 * level - over) * SHARES)

-- fewer lanes are open than counted, or just as many, and the bit is not set
abbrev pub IsNoMore : ℕ → ℕ → ℕ → Type 0
IsNoMore open_lanes count bit = (open_lanes < count) ⊎ ((open_lanes ≡ count) × (bit ≡ 0))

-- a lane with these points leaves the pair out of reach: too few lanes may have points, or just as many with a product that stays below the pair's
abbrev pub IsFar : ℕ → ℕ → ℕ → Flat → ℕ → ℕ → Pair → Type 0
IsFar low high points flat before shares pair =
    let open_lanes = flat.open_lanes + (min (high + points) 1 - min high 1) in
    let after = entry_at flat.level (low + points) (high + points) in
    (open_lanes < pair.count)
    ⊎ ((open_lanes ≡ pair.count) × (flat.product * SHARES < shares * pair.product)
    × FallsShort flat.level before after (flat.spare + points + before - after) shares)
