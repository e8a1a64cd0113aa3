use Rattle.std.proofs.Common.{◌≡◌}
use Rattle.bid_rules.specs.Orders.{factorial}
use Rattle.set_costs.proofs.sums.factorial.Given as goal

abbrev pub invariant-loop-k : goal.invariant-loop-k
invariant-loop-k l = l.orders ≡ factorial l.k
