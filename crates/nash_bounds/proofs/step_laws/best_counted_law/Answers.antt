use Rattle.nash_bounds.proofs.ServingBest.{one_best, task_kept}
use Rattle.nash_bounds.proofs.step_laws.best_counted_law.Goals as goal

pub returns-clause-kept : goal.returns-clause-kept
returns-clause-kept c = task_kept

pub returns-clause-one : goal.returns-clause-one
returns-clause-one c = one_best
