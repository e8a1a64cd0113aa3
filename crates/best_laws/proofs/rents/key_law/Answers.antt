use Rattle.best_laws.proofs.DualNumbers.{duals_show, one_right}
use Rattle.best_laws.proofs.ShownRents.{keys_alone, keys_order, keys_welfare}
use Rattle.best_laws.proofs.rents.key_law.Goals as goal

pub returns-clause-dual : goal.returns-clause-dual
returns-clause-dual c = duals_show

pub returns-clause-one_right : goal.returns-clause-one_right
returns-clause-one_right c = one_right

pub returns-clause-only : goal.returns-clause-only
returns-clause-only c = keys_alone

pub returns-clause-welfare : goal.returns-clause-welfare
returns-clause-welfare c = keys_welfare

pub returns-clause-first : goal.returns-clause-first
returns-clause-first c = keys_order
