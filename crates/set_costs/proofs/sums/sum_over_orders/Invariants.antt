use Rattle.std.proofs.Common.{◌≡◌, length}
use Rattle.set_costs.specs.Sums.{ListsSums}
use Rattle.set_costs.proofs.sums.sum_over_orders.Given as goal

abbrev pub invariant-loop : goal.invariant-loop
invariant-loop l = record {
  count : length l.sums.items ≡ l.counter;
  sums : ListsSums l.costs l.rider l.sums.items;
}
