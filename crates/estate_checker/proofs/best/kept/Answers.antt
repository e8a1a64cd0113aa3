use Rattle.std.proofs.Common.{arith}
use Rattle.estate_checker.proofs.SomeValues.{if_some_map}
use Rattle.estate_checker.proofs.best.kept.Goals as goal

pub returns-in-Yes : goal.returns-in-Yes
returns-in-Yes c given h =
    let yes = c.in-Yes.ensures given h in
    if_some_map c.printed.result (λ best is. (λ number low high. yes number low (omega arith), is.0, is.1)) (c.printed.ensures given h)
