use Rattle.std.proofs.Common.{◌≡◌, ◌-◌, ◌≤◌, All}
use Rattle.estate_bounds.specs.Prices.{IsListOf, reserve}
use Rattle.estate_bounds.specs.declared.limits.TheConstants.{MOST_LOG}
use Rattle.estate_bounds.proofs.gains.reserves.Given as goal

abbrev pub invariant-loop-number : goal.invariant-loop-number
invariant-loop-number l = record {
  most : l.most ≡ reserve l.rate (l.number - 1);
  within : l.most ≤ MOST_LOG;
  items : IsListOf (reserve l.rate) l.number l.list.items;
  small : All (λ most. most ≤ MOST_LOG) l.list.items;
}
