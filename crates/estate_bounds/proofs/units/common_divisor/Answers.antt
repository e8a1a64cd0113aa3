use Rattle.std.proofs.Common.{subst}
use Rattle.std.specs.Int.{IsGcd}
use Rattle.estate_bounds.proofs.Divisors.{divides_all, divides_more}
use Rattle.estate_bounds.proofs.units.common_divisor.Goals as goal

pub loop-number-preserved : goal.loop-number-preserved
loop-number-preserved c = record {
  some = c.gcd-divisor.ensures.positive;
  divides = divides_more c.args.first c.args.numbers.now c.loop-number.number-index c.loop-number.divisor c.gcd-divisor.result
      (subst (λ n. IsGcd n c.loop-number.divisor c.gcd-divisor.result) c.from.ensures c.gcd-divisor.ensures.gcd) c.loop-number.invariant.divides;
}

pub returns-clause-divisor : goal.returns-clause-divisor
returns-clause-divisor c = divides_all c.args.first c.args.numbers.now c.loop-number.number-index c.loop-number.divisor c.loop-number-test.false c.loop-number.invariant.divides
