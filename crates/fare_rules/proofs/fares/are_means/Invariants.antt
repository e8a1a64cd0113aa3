use Rattle.std.proofs.Common.{ℕ, ◌+◌, ◌<◌, map, get_or, pos}
use Rattle.bid_rules.specs.Fares.{sum_of_marginal_costs}
use Rattle.bid_rules.specs.Fractions.{IsQuotient}
use Rattle.bid_rules.specs.Orders.{factorial}
use Rattle.split_frac.specs.Frac.{fraction_of}
use Rattle.fare_rules.proofs.fares.are_means.Given as goal

abbrev pub invariant-loop-k : goal.invariant-loop-k
invariant-loop-k l = (i : ℕ) → i < l.k → IsQuotient (get_or (map fraction_of l.fares) i (pos 0, 1)) (sum_of_marginal_costs l.costs (i + 1)) (factorial l.count)
