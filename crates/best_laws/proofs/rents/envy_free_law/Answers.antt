use Rattle.best_laws.proofs.EnvyFreeWelfare.{free_is_best, kept, kept_free}
use Rattle.best_laws.proofs.rents.envy_free_law.Goals as goal

pub returns-clause-welfare : goal.returns-clause-welfare
returns-clause-welfare c case k rooms prices priced free = record { assignment = priced.assignment; greatest = λ others h. free_is_best case k rooms prices others priced free h }

pub returns-clause-priced : goal.returns-clause-priced
returns-clause-priced c case k rooms others prices priced best = record { parts = priced.parts; assignment = best.assignment; each = priced.each; whole = priced.whole }

pub returns-clause-others : goal.returns-clause-others
returns-clause-others c case k rooms others prices priced free best = kept_free case k rooms prices others priced free best.assignment (best.greatest rooms priced.assignment)

pub returns-clause-utilities : goal.returns-clause-utilities
returns-clause-utilities c case k rooms others prices priced free best = kept case k rooms prices others priced free best.assignment (best.greatest rooms priced.assignment)
