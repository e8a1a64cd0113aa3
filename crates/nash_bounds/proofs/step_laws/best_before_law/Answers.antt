use Rattle.nash_bounds.proofs.EarlierBlocks.{best_before_found, best_before_best, best_before_none}
use Rattle.nash_bounds.proofs.step_laws.best_before_law.Goals as goal

pub returns-clause-found : goal.returns-clause-found
returns-clause-found c case task owners is = best_before_found case task owners is

pub returns-clause-best : goal.returns-clause-best
returns-clause-best c case task owners within is = best_before_best case task owners within is

pub returns-clause-none : goal.returns-clause-none
returns-clause-none c case task is = best_before_none case task is
