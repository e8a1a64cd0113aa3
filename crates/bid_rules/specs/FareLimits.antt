-- The greatest numbers that fares can lead to, computed from the limits.
use Rattle.std.specs.Prelude.{ℕ, ◌+◌, ◌*◌}
use Rattle.bid_rules.specs.declared.limits.TheConstants.{MOST_FARE_CENTS, MOST_RIDERS}
use Rattle.bid_rules.specs.Orders.{factorial}

-- the greatest cost of all riders together, in cents: the flag fall, and a leg for
-- each rider
abbrev pub most_cost : ℕ
most_cost = MOST_FARE_CENTS * (MOST_RIDERS + 1)

-- how many orders the greatest number of riders has
abbrev pub most_orders : ℕ
most_orders = factorial MOST_RIDERS

-- the greatest cost, once for each of these orders
abbrev pub most_sum : ℕ
most_sum = most_cost * most_orders
