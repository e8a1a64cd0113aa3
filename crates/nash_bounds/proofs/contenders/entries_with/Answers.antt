use Rattle.std.proofs.Common.{arith, ◌+◌, get_or, ap, ◌∙◌}
use lib.Lanes.{zip2}
use Rattle.nash_bounds.specs.Levels.{entry_at}
use Rattle.nash_bounds.proofs.LaneEntries.{entries_get}
use Rattle.nash_bounds.proofs.LanePlaces.{both_at, both_long}
use Rattle.nash_bounds.proofs.LaneVectors.{each_two}
use Rattle.nash_bounds.proofs.contenders.entries_with.Goals as goal

pub overflow_add-low : goal.overflow_add-low
overflow_add-low c = let a = c.requires.lows in let b = c.requires.points in
    each_two _ c.args.low c.args.points (omega arith) (λ k l. let o = c.requires.order k (omega arith) in let f = c.requires.fits k (omega arith) in record { fits = omega arith })

pub overflow_add-high : goal.overflow_add-high
overflow_add-high c = let a = c.requires.highs in let b = c.requires.points in
    each_two _ c.args.high c.args.points (omega arith) (λ k l. let f = c.requires.fits k (omega arith) in record { fits = omega arith })

pub entries_of-requires-clause-lows : goal.entries_of-requires-clause-lows
entries_of-requires-clause-lows c = both_long (λ a b. a + b) c.args.low c.args.points c.requires.lows c.requires.points

pub entries_of-requires-clause-highs : goal.entries_of-requires-clause-highs
entries_of-requires-clause-highs c = both_long (λ a b. a + b) c.args.high c.args.points c.requires.highs c.requires.points

pub returns-clause-each : goal.returns-clause-each
returns-clause-each c = λ k l.
    let lows = zip2 (λ a b. a + b) c.args.low c.args.points in
    let highs = zip2 (λ a b. a + b) c.args.high c.args.points in
    let m = both_long (λ a b. a + b) c.args.low c.args.points c.requires.lows c.requires.points in
    let n = both_long (λ a b. a + b) c.args.high c.args.points c.requires.highs c.requires.points in
    ap (λ xs. get_or xs k 0) c.entries_of.ensures ∙ entries_get c.args.level lows highs k (omega arith) (omega arith)
    ∙ ap (λ n. entry_at c.args.level n (get_or highs k 0)) (both_at (λ a b. a + b) c.args.low c.args.points k c.requires.lows c.requires.points l)
    ∙ ap (entry_at c.args.level (get_or c.args.low k 0 + get_or c.args.points k 0)) (both_at (λ a b. a + b) c.args.high c.args.points k c.requires.highs c.requires.points l)
