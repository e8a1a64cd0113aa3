use Rattle.estate_bounds.specs.Shown.{estimate}
use Rattle.estate_bounds.specs.declared.limits.TheConstants.{WHOLE_RATIO}
use Rattle.estate_bounds.proofs.RatioSteps.{estimate_last, estimate_next}
use Rattle.estate_bounds.proofs.ratios.estimate.Goals as goal

pub loop-k-preserved : goal.loop-k-preserved
loop-k-preserved c = record {
  small = c.next_ratio-ratio.ensures.small;
  sofar = estimate_next c.loop-k.ratio c.next_ratio-ratio.result c.loop-k.k (estimate WHOLE_RATIO c.args.factors.now c.args.divisors.now) c.args.factors.now c.args.divisors.now
      c.loop-k-test.true c.requires.each c.next_ratio-ratio.ensures.value c.loop-k.invariant.sofar;
}

pub returns : goal.returns
returns c = estimate_last c.loop-k.ratio c.loop-k.k (estimate WHOLE_RATIO c.args.factors.now c.args.divisors.now) c.args.factors.now c.args.divisors.now c.loop-k-test.false c.loop-k.invariant.sofar
