use Rattle.split_frac.proofs.Sums.{sum_in_parts, difference_in_parts}
use Rattle.split_frac.proofs.laws.parts_law.Goals as goal

pub returns-clause-sum : goal.returns-clause-sum
returns-clause-sum c a b s x y k e f h = sum_in_parts a b s x y k e f h

pub returns-clause-difference : goal.returns-clause-difference
returns-clause-difference c a b s x y k e f h = difference_in_parts a b s x y k e f h
