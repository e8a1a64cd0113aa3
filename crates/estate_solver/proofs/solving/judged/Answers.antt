use Rattle.std.proofs.Common.{arith}
use Rattle.estate_solver.proofs.ShownBest.{ends_compared}
use Rattle.estate_solver.proofs.solving.judged.Goals as goal

pub returns-in-Some : goal.returns-in-Some
returns-in-Some c =
    let room = c.if-size-text.false in
    ends_compared c.args.case.now c.compared.result.end c.compared.result.owners.items c.args.text.now c.args.found.size (omega (arith, room)) c.in-Some.ensures.prints c.compared.ensures
