use Rattle.std.proofs.Common.{arith}
use Rattle.std.proofs.lemmas.Nat.Gcd.{IsGcd-from_zero, IsGcd-from_mod}
use Rattle.split_frac.proofs.arithmetic.gcd.Goals as goal

pub loop-y-init : goal.loop-y-init
loop-y-init c = (omega arith, λ g h. IsGcd-from_mod _ _ g h)

pub loop-y-preserved : goal.loop-y-preserved
loop-y-preserved c = (omega arith, λ g h. c.loop-y.invariant.1 g (IsGcd-from_mod _ _ g h))

pub returns-clause-gcd : goal.returns-clause-gcd
returns-clause-gcd c = c.loop-y.invariant.1 _ (IsGcd-from_zero _ _ (omega arith))
