use Rattle.split_frac.proofs.Sums.{sum_divides, sum_small, difference_divides, difference_small}
use Rattle.split_frac.proofs.laws.sum_law.Goals as goal

pub returns-clause-sum : goal.returns-clause-sum
returns-clause-sum c x y z multiple p q h = sum_divides x y z multiple p q h

pub returns-clause-difference : goal.returns-clause-difference
returns-clause-difference c x y z multiple p q h = difference_divides x y z multiple p q h

pub returns-clause-sum_size : goal.returns-clause-sum_size
returns-clause-sum_size c x y z multiple some p q h = sum_small x y z multiple some p q h

pub returns-clause-difference_size : goal.returns-clause-difference_size
returns-clause-difference_size c x y z multiple some p q h = difference_small x y z multiple some p q h
