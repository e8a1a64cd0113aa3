use Rattle.std.proofs.Common.{inr}
use Rattle.split_top.proofs.program.decide.Goals as goal

pub returns-in-Some-clause-comes : goal.returns-in-Some-clause-comes
returns-in-Some-clause-comes g c output = inr (c.in-Some.command, c.in-Some.ensures, c.execute.ensures.came output)
