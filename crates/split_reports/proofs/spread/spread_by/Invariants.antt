use Rattle.std.proofs.Common.{◌≡◌, length, take, sum}
use Rattle.split_reports.specs.TrialSpreads.{share_upto, shares}
use Rattle.split_reports.proofs.spread.spread_by.Given as goal

abbrev pub invariant-loop-weight : goal.invariant-loop-weight
invariant-loop-weight l = record {
  upto : l.upto ≡ sum (take l.weight-index l.weights.items);
  given : l.given ≡ share_upto l.whole l.weights.items l.weight-index;
  values : l.values.items ≡ shares l.whole l.weights.items l.weight-index;
  size : length l.values.items ≡ l.weight-index;
}
