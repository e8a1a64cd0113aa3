use Rattle.std.proofs.Common.{arith, w16}
use lib.LanesLaws.{fold-sum}
use borrow.Author.Lanes.{sum_fits}
use Rattle.nash_bounds.proofs.LaneVectors.{vector_sum}
use Rattle.nash_bounds.proofs.vectors.total.Goals as goal

pub overflow_add-numbers : goal.overflow_add-numbers
overflow_add-numbers c = let e = vector_sum c.args.numbers in sum_fits w16 0 c.args.numbers (omega (arith, c.requires))

pub returns : goal.returns
returns c = let e = vector_sum c.args.numbers in let f = fold-sum 0 c.args.numbers in let g = c.from.ensures in omega arith
