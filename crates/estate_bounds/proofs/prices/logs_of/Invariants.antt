use Rattle.std.proofs.Common.{◌≡◌, ◌+◌, ◌*◌, ◌≤◌, drop, map, sum}
use Rattle.estate_bounds.specs.Logs.{log_down}
use Rattle.estate_bounds.specs.declared.limits.TheConstants.{MOST_LOG}
use Rattle.estate_bounds.proofs.prices.logs_of.Given as goal

abbrev pub invariant-loop-share : goal.invariant-loop-share
invariant-loop-share l = record {
  small : l.sum ≤ MOST_LOG * l.share-index;
  value : l.sum + sum (map log_down (drop l.share-index l.shares)) ≡ sum (map log_down l.shares);
}
