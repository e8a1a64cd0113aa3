use Rattle.std.proofs.Common.{◌≡◌, ◌≤◌, All, length}
use Rattle.estate_bounds.specs.Logs.{log_down}
use Rattle.estate_bounds.specs.Prices.{IsListOf}
use Rattle.estate_bounds.specs.declared.limits.TheConstants.{MOST_LOG}
use Rattle.estate_bounds.proofs.logs.logs_down.Given as goal

abbrev pub invariant-loop-number : goal.invariant-loop-number
invariant-loop-number l = record {
  long : length l.logs.items ≡ l.number;
  items : IsListOf log_down l.number l.logs.items;
  small : All (λ log. log ≤ MOST_LOG) l.logs.items;
}
