use Rattle.best_laws.proofs.ValueCycles.{values_no_cycle}
use Rattle.best_laws.proofs.rents.value_cycle_law.Goals as goal

pub returns : goal.returns
returns c = values_no_cycle
