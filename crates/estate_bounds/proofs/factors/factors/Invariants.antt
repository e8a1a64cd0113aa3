use Rattle.std.proofs.Common.{◌≡◌, ◌≤◌, ◌++◌, All, drop, length}
use Rattle.estate_bounds.specs.Shown.{factors}
use Rattle.estate_bounds.specs.declared.limits.TheConstants.{MOST_FACTOR}
use Rattle.estate_bounds.proofs.factors.factors.Given as goal

abbrev pub invariant-loop-k : goal.invariant-loop-k
invariant-loop-k l = record {
  long : length l.list.items ≡ l.k;
  items : l.list.items ++ factors l.count (drop l.k l.weights) (drop l.k l.shares) ≡ factors l.count l.weights l.shares;
  small : All (λ factor. factor ≤ MOST_FACTOR) l.list.items;
}
