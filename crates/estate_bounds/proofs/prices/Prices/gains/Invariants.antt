use Rattle.std.proofs.Common.{◌≡◌, ◌*◌, ◌≤◌}
use Rattle.std.specs.List.{range_with_len, sum_by}
use Rattle.estate_bounds.specs.Prices.{gain}
use Rattle.estate_bounds.specs.Weighted.{weight}
use Rattle.estate_bounds.specs.declared.limits.TheConstants.{MOST_LOG}
use Rattle.estate_bounds.proofs.prices.Prices.gains.Given as goal

abbrev pub invariant-loop-k : goal.invariant-loop-k
invariant-loop-k l = record {
  small : l.sum ≤ MOST_LOG * l.k;
  value : l.sum ≡ sum_by (λ player. gain l.case l.owners (weight l.self.rates.items player) (weight l.self.fees.items player) player) (range_with_len 1 l.k);
}
