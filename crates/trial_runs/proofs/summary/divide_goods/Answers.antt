use Rattle.std.proofs.Common.{arith}
use Rattle.trial_runs.proofs.summary.divide_goods.Goals as goal

pub unreachable-requires : goal.unreachable-requires
unreachable-requires g c =
    let over = c.in-Err.ensures.over.above in
    let le = c.requires.within over.0 over.1 in
    let above = over.2 in
    omega (arith, le, above)
