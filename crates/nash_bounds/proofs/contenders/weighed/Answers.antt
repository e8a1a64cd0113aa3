use Rattle.std.proofs.Common.{arith, ◌*◌, max, get_or, replicate, Fits, w32, ap, ◌∙◌}
use lib.Lanes.{zip2}
use Rattle.nash_bounds.proofs.LanePlaces.{both_at, both_long, splat_at, splat_long, weight_fits}
use Rattle.nash_bounds.proofs.LaneVectors.{each_two}
use Rattle.nash_bounds.proofs.contenders.weighed.Goals as goal

pub overflow_mul-result : goal.overflow_mul-result
overflow_mul-result c = let a = c.factors.ensures.long in let b = c.widened.ensures.long in
    each_two (λ a b. Fits w32 (a * b)) c.factors.result c.widened.result (omega arith) (λ k l.
    let f = c.factors.ensures.each k (omega arith) in
    let n = c.widened.ensures.each k (omega arith) in
    let e = c.requires.small k (omega arith) in
    let m = c.requires.numbers_small k (omega arith) in
    let fits = weight_fits (get_or c.factors.result k 0) (get_or c.widened.result k 0) c.args.shares (omega arith) (omega arith) c.requires.shares in
    record { fits = fits.0 })

pub overflow_mul-result-2 : goal.overflow_mul-result-2
overflow_mul-result-2 c =
    let products = zip2 (λ a b. a * b) c.factors.result c.widened.result in
    let a = both_long (λ a b. a * b) c.factors.result c.widened.result c.factors.ensures.long c.widened.ensures.long in
    let b = splat_long c.args.shares in
    each_two (λ a b. Fits w32 (a * b)) products (replicate 16 c.args.shares) (omega arith) (λ k l.
    let f = c.factors.ensures.each k (omega arith) in
    let n = c.widened.ensures.each k (omega arith) in
    let e = c.requires.small k (omega arith) in
    let m = c.requires.numbers_small k (omega arith) in
    let fits = weight_fits (get_or c.factors.result k 0) (get_or c.widened.result k 0) c.args.shares (omega arith) (omega arith) c.requires.shares in
    rw (both_at (λ a b. a * b) c.factors.result c.widened.result k c.factors.ensures.long c.widened.ensures.long (omega arith), splat_at c.args.shares k (omega arith)) (record { fits = fits.1 }))

pub returns-clause-each : goal.returns-clause-each
returns-clause-each c = λ k l.
    let products = zip2 (λ a b. a * b) c.factors.result c.widened.result in
    let n = both_long (λ a b. a * b) c.factors.result c.widened.result c.factors.ensures.long c.widened.ensures.long in
    both_at (λ a b. a * b) products (replicate 16 c.args.shares) k n (splat_long c.args.shares) l
    ∙ ap (λ v. get_or products k 0 * v) (splat_at c.args.shares k l)
    ∙ ap (λ v. v * c.args.shares) (both_at (λ a b. a * b) c.factors.result c.widened.result k c.factors.ensures.long c.widened.ensures.long l
    ∙ ap (λ v. v * get_or c.widened.result k 0) (c.factors.ensures.each k l) ∙ ap (λ v. max (get_or c.args.entries k 0) 1 * v) (c.widened.ensures.each k l))

pub returns-clause-long : goal.returns-clause-long
returns-clause-long c =
    let products = zip2 (λ a b. a * b) c.factors.result c.widened.result in
    both_long (λ a b. a * b) products (replicate 16 c.args.shares) (both_long (λ a b. a * b) c.factors.result c.widened.result c.factors.ensures.long c.widened.ensures.long) (splat_long c.args.shares)
