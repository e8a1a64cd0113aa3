use Rattle.std.proofs.Common.{arith}
use Rattle.nash_bounds.proofs.ShortLanes.{shares_above}
use Rattle.nash_bounds.proofs.contenders.shares_of.Goals as goal

pub returns-clause-above : goal.returns-clause-above
returns-clause-above c =
    let none = c.if-goal-eq0.false in
    let goal' = c.args.goal.now in
    shares_above c.args.product c.units_above.result goal'.units goal'.shift goal'.pair.product c.min.result (omega arith) c.requires.within c.units_above.ensures.above
    (rw (c.from.ensures, c.from-2.ensures) at c.min.ensures)
