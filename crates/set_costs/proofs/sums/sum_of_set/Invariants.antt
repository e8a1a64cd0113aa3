use Rattle.std.proofs.Common.{◌≡◌, ◌≤◌, ◌+◌, ◌*◌, ◌+ℤ◌, ℕ, length, Contains, unsigned_abs}
use Rattle.bid_rules.specs.Coalitions.{riders_in}
use Rattle.bid_rules.specs.Orders.{factorial}
use Rattle.bid_rules.specs.Sums.{total}
use Rattle.best_laws.specs.Entries.{without}
use Rattle.best_laws.specs.MarginalSums.{part_by_last}
use Rattle.set_costs.proofs.SetSums.{most_part}
use Rattle.set_costs.proofs.sums.sum_of_set.Given as goal

abbrev pub invariant-loop-left : goal.invariant-loop-left
invariant-loop-left l = record {
  within : (other : ℕ) → Contains (riders_in l.left) other → Contains (riders_in (without l.set l.rider)) other;
  count : l.others + length (riders_in l.left) ≡ length (riders_in (without l.set l.rider));
  orders : l.orders ≡ factorial l.others;
  value : total (part_by_last l.costs l.rider l.set) (riders_in (without l.set l.rider)) ≡ l.sum +ℤ total (part_by_last l.costs l.rider l.set) (riders_in l.left);
  small : unsigned_abs l.sum ≤ most_part * l.others;
}

abbrev pub decreases-loop-left : goal.decreases-loop-left
decreases-loop-left l = l.left
