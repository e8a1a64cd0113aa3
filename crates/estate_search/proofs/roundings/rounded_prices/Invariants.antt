use Rattle.std.proofs.Common.{◌≡◌, ◌≤◌, All, length}
use Rattle.estate_bounds.specs.declared.limits.TheConstants.{MOST_PRICE}
use Rattle.estate_search.proofs.roundings.rounded_prices.Given as goal

abbrev pub invariant-loop-k : goal.invariant-loop-k
invariant-loop-k l = record {
  each : length l.prices.items ≡ l.k;
  small : All (λ price. price ≤ MOST_PRICE) l.prices.items;
}
