use Rattle.std.proofs.Common.{arith, ◌+◌, ◌-◌, ◌≤◌, Fits, w16, get_or, ap, ◌∙◌}
use lib.Lanes.{zip2}
use Rattle.nash_bounds.proofs.LanePlaces.{both_at, both_long}
use Rattle.nash_bounds.proofs.LaneVectors.{each_two}
use Rattle.nash_bounds.proofs.contenders.left_over.Goals as goal

pub sum_with-requires-clause-fits : goal.sum_with-requires-clause-fits
sum_with-requires-clause-fits c = λ k l. let f = c.requires.fits k l in omega arith

pub overflow_add-result : goal.overflow_add-result
overflow_add-result c = let a = c.sum_with.ensures.long in let b = c.requires.befores in
    each_two (λ a b. Fits w16 (a + b)) c.sum_with.result c.args.before (omega arith) (λ k l. let s = c.sum_with.ensures.each k (omega arith) in let f = c.requires.fits k (omega arith) in record { fits = omega arith })

pub overflow_sub-result : goal.overflow_sub-result
overflow_sub-result c =
    let most = zip2 (λ a b. a + b) c.sum_with.result c.args.before in
    let n = both_long (λ a b. a + b) c.sum_with.result c.args.before c.sum_with.ensures.long c.requires.befores in
    let m = c.requires.afters in
    each_two (λ a b. b ≤ a) most c.args.after (omega arith) (λ k l.
    let h = both_at (λ a b. a + b) c.sum_with.result c.args.before k c.sum_with.ensures.long c.requires.befores (omega arith) in
    let s = c.sum_with.ensures.each k (omega arith) in
    let f = c.requires.less k (omega arith) in
    omega arith)

pub returns-clause-each : goal.returns-clause-each
returns-clause-each c = λ k l.
    let most = zip2 (λ a b. a + b) c.sum_with.result c.args.before in
    let n = both_long (λ a b. a + b) c.sum_with.result c.args.before c.sum_with.ensures.long c.requires.befores in
    both_at (λ a b. a - b) most c.args.after k n c.requires.afters l
    ∙ ap (λ v. v - get_or c.args.after k 0) (both_at (λ a b. a + b) c.sum_with.result c.args.before k c.sum_with.ensures.long c.requires.befores l ∙ ap (λ v. v + get_or c.args.before k 0) (c.sum_with.ensures.each k l))

pub returns-clause-long : goal.returns-clause-long
returns-clause-long c =
    let most = zip2 (λ a b. a + b) c.sum_with.result c.args.before in
    both_long (λ a b. a - b) most c.args.after (both_long (λ a b. a + b) c.sum_with.result c.args.before c.sum_with.ensures.long c.requires.befores) c.requires.afters
