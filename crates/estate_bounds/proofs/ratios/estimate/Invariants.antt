use Rattle.std.proofs.Common.{◌≡◌, ◌≤◌, drop}
use Rattle.estate_bounds.specs.Shown.{estimate}
use Rattle.estate_bounds.specs.declared.limits.TheConstants.{MOST_RATIO, WHOLE_RATIO}
use Rattle.estate_bounds.proofs.ratios.estimate.Given as goal

abbrev pub invariant-loop-k : goal.invariant-loop-k
invariant-loop-k l = record {
  small : l.ratio ≤ MOST_RATIO;
  sofar : estimate l.ratio (drop l.k l.factors) (drop l.k l.divisors) ≡ estimate WHOLE_RATIO l.factors l.divisors;
}
