use Rattle.best_laws.proofs.ValueCycles.{no_cycle}
use Rattle.best_laws.proofs.rents.potential_law.Goals as goal

pub returns : goal.returns
returns c = no_cycle
