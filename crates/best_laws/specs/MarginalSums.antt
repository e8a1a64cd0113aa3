-- For the laws that follow from the definition of the best fares: sums of marginal costs over the orders of some riders.
use Rattle.std.specs.Prelude.{ℕ, ℤ, pos, ◌-ℤ◌, ◌*ℤ◌, ◌==◌, List, cond, length}
use Rattle.bid_rules.specs.declared.cases.FareCase.{FareCase}
use Rattle.bid_rules.specs.Coalitions.{riders_in}
use Rattle.bid_rules.specs.Fares.{coalition_cost, marginal_cost}
use Rattle.bid_rules.specs.Orders.{factorial, orders}
use Rattle.bid_rules.specs.Sums.{total}
use Rattle.best_laws.specs.Entries.{without}

-- the sum of what a rider adds to the cost, over all orders of these riders
abbrev pub marginal_sum : FareCase → ℕ → List ℕ → ℤ
marginal_sum case rider riders = total (marginal_cost case rider) (orders riders)

-- the part of that sum from the orders in which the given rider is last: if it is the rider itself, what it adds to the others, once for each of
-- their orders, and otherwise the sum over the orders of the others
abbrev pub part_by_last : FareCase → ℕ → ℕ → ℕ → ℤ
part_by_last case rider set last = cond (last == rider)
    ((pos (coalition_cost case (riders_in set)) -ℤ pos (coalition_cost case (riders_in (without set last)))) *ℤ pos (factorial (length (riders_in (without set last)))))
    (marginal_sum case rider (riders_in (without set last)))
