use Rattle.best_laws.proofs.ShownRents.{formula_parts}
use Rattle.best_laws.proofs.rents.formula_law.Goals as goal

pub returns : goal.returns
returns c = formula_parts
