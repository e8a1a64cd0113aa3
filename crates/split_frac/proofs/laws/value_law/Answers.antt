use Rattle.std.proofs.Common.{ap}
use Rattle.split_frac.proofs.Values.{same_value, same_frac, den_divides, num_small}
use Rattle.split_frac.proofs.laws.value_law.Goals as goal

pub returns-clause-value : goal.returns-clause-value
returns-clause-value c a b p = same_value a b p

pub returns-clause-pair : goal.returns-clause-pair
returns-clause-pair c a b p = same_frac a b (ap (λ pair. pair.0) p) (ap (λ pair. pair.1) p)

pub returns-clause-divides : goal.returns-clause-divides
returns-clause-divides c a num den h = den_divides a num den h

pub returns-clause-size : goal.returns-clause-size
returns-clause-size c a num den some h = num_small a num den some h
