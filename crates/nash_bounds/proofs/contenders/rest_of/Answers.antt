use Rattle.std.proofs.Common.{arith, ◌-◌, ◌≤◌, get_or, replicate, ap, ◌∙◌}
use Rattle.nash_bounds.proofs.LanePlaces.{both_at, both_long, splat_at, splat_long}
use Rattle.nash_bounds.proofs.LaneVectors.{each_two}
use Rattle.nash_bounds.proofs.contenders.rest_of.Goals as goal

pub overflow_sub-result : goal.overflow_sub-result
overflow_sub-result c = let a = splat_long c.args.number in let b = c.requires.numbers in
    each_two (λ a b. b ≤ a) (replicate 16 c.args.number) c.args.numbers (omega arith) (λ k l. let s = splat_at c.args.number k (omega arith) in let f = c.requires.less k (omega arith) in omega arith)

pub returns-clause-each : goal.returns-clause-each
returns-clause-each c = λ k l.
    both_at (λ a b. a - b) (replicate 16 c.args.number) c.args.numbers k (splat_long c.args.number) c.requires.numbers l ∙ ap (λ n. n - get_or c.args.numbers k 0) (splat_at c.args.number k l)

pub returns-clause-long : goal.returns-clause-long
returns-clause-long c = both_long (λ a b. a - b) (replicate 16 c.args.number) c.args.numbers (splat_long c.args.number) c.requires.numbers
