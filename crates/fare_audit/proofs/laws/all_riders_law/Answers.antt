use Rattle.fare_audit.proofs.AllRiders.{all_pay, all_pay_none}
use Rattle.fare_audit.proofs.laws.all_riders_law.Goals as goal

pub returns-clause-none : goal.returns-clause-none
returns-clause-none c case fares route best = all_pay c.coalition_law.ensures.all case fares route best (c.best_fares_law.ensures.total case fares route best)

pub returns-clause-pays : goal.returns-clause-pays
returns-clause-pays c case fares route best = all_pay_none case fares (returns-clause-none c case fares route best)
