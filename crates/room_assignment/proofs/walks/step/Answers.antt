use Rattle.std.proofs.Common.{arith}
use Rattle.std.proofs.lemmas.Grind.{common_steps}
use Rattle.room_assignment.specs.Matrix.{entry}
use Rattle.room_assignment.proofs.walks.step.Goals as goal

pub returns-clause-value : goal.returns-clause-value
unfolding entry
returns-clause-value c = grind (arith, common_steps)
