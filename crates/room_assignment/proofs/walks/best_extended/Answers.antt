use Rattle.std.proofs.Common.{rules, pos, ◌+ℤ◌, length, get_or, FitsSigned}
use Rattle.std.specs.Int.{w128}
use Rattle.std.proofs.lemmas.Int.{to_z-of_z}
use Rattle.room_assignment.specs.Matrix.{entry}
use Rattle.room_assignment.proofs.LongestWalks.{more_best}
use Rattle.room_assignment.proofs.walks.best_extended.Goals as goal

pub loop-from-preserved : goal.loop-from-preserved
loop-from-preserved c =
    let fits : FitsSigned w128 c.greater-best.result = search rules in
    let fits_other : FitsSigned w128 c.extended.result = search rules in
    let first = c.greater-best.ensures.first in
    let second = simp to_z-of_z at c.greater-best.ensures.second in
    let one = simp to_z-of_z at c.greater-best.ensures.one in
    let d = c.loop-from.invariant in
    let both = more_best (λ from. get_or c.args.weights.now from (pos 0) +ℤ entry c.args.matrix.now from c.args.to) (length c.args.weights.now) c.loop-from.from _ c.extended.result c.greater-best.result
    c.loop-from-test.true c.extended.ensures.value d.reached d.greatest first second one in
    simp to_z-of_z (record { reached = both.0; greatest = both.1 })
