use Rattle.std.proofs.Common.{rules, arith, pos, ◌≤ℤ◌, ◌<ℤ◌, refl, length, get_or, FitsSigned}
use Rattle.std.specs.Int.{w128}
use Rattle.std.proofs.lemmas.Int.{to_z-of_z, ints}
use Rattle.room_assignment.specs.Matrix.{entry}
use Rattle.room_assignment.proofs.LongestWalks.{longer_lists, longer_small}
use Rattle.room_assignment.proofs.walks.longer_walk.Goals as goal

pub returns-then-best-weight-clause-longest : goal.returns-then-best-weight-clause-longest
returns-then-best-weight-clause-longest c =
    let fits : FitsSigned w128 c.best_extended-best.result = search rules in
    let fits_read : FitsSigned w128 (get_or c.deref.result.now c.args.to (pos 0)) = search rules in
    let test = simp to_z-of_z at c.if-best-weight.true in
    let walks = c.args.walks.now in
    let both = longer_lists c.args.limit (length c.args.matrix.now.items) (entry c.args.matrix.now) walks.weights.items c.as_slice.result.now c.deref.result.now walks.ranks.items walks.ranks.items c.args.to c.best_extended-best.result
    c.requires.walks c.requires.to c.as_slice.ensures.value c.deref.ensures.0 refl c.best_extended-best.ensures.reached c.best_extended-best.ensures.greatest in
    let above : get_or c.deref.result.now c.args.to (pos 0) <ℤ c.best_extended-best.result = grind (arith, ints) in
    simp to_z-of_z (both.0 above)

pub returns-then-best-weight-clause-small : goal.returns-then-best-weight-clause-small
returns-then-best-weight-clause-small c =
    let fits : FitsSigned w128 c.best_extended-best.result = search rules in
    simp to_z-of_z (longer_small c.args.limit c.args.matrix.now c.args.walks.now.weights.items c.as_slice.result.now c.args.to c.best_extended-best.result
    c.requires.square c.requires.to c.requires.walks.weights_count c.as_slice.ensures.value c.requires.walks.small c.best_extended-best.ensures.reached)

pub returns-clause-longest : goal.returns-clause-longest
returns-clause-longest c =
    let fits : FitsSigned w128 c.best_extended-best.result = search rules in
    let fits_read : FitsSigned w128 (get_or c.deref.result.now c.args.to (pos 0)) = search rules in
    let test = simp to_z-of_z at c.if-best-weight.false in
    let walks = c.args.walks.now in
    let both = longer_lists c.args.limit (length c.args.matrix.now.items) (entry c.args.matrix.now) walks.weights.items c.as_slice.result.now c.deref.result.now walks.ranks.items c.deref-2.result.now c.args.to c.best_extended-best.result
    c.requires.walks c.requires.to c.as_slice.ensures.value c.deref.ensures.0 c.deref-2.ensures.0 c.best_extended-best.ensures.reached c.best_extended-best.ensures.greatest in
    let below : c.best_extended-best.result ≤ℤ get_or c.deref.result.now c.args.to (pos 0) = grind (arith, ints) in
    simp to_z-of_z (both.1 below)
