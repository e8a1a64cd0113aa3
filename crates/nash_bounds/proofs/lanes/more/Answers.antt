use Rattle.std.proofs.Common.{arith, ◌∙◌}
use Rattle.std.proofs.lemmas.Simd.{length-zip2, get_or-zip2}
use Rattle.nash_bounds.proofs.LaneVectors.{each_two}
use Rattle.nash_bounds.proofs.lanes.more.Goals as goal

pub overflow_add-result : goal.overflow_add-result
overflow_add-result c = let l = c.fits-numbers.0 in let m = c.fits-points.0 in
    each_two _ c.args.numbers c.args.points (omega arith) (λ k h. record { fits = c.requires.each k (omega arith) })

pub returns-clause-each : goal.returns-clause-each
returns-clause-each c = λ k h. let l = c.fits-numbers.0 in let m = c.fits-points.0 in get_or-zip2 _ c.args.numbers c.args.points k 0 0 0 (omega arith) (omega arith)

pub returns-clause-long : goal.returns-clause-long
returns-clause-long c = let l = c.fits-numbers.0 in let m = c.fits-points.0 in length-zip2 _ c.args.numbers c.args.points (omega arith) ∙ c.fits-numbers.0
