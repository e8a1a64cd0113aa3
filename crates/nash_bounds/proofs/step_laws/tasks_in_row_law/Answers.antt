use Rattle.nash_bounds.proofs.TaskRows.{count_none, count_one_more, count_rises, counted_none, counted_one_more}
use Rattle.nash_bounds.proofs.step_laws.tasks_in_row_law.Goals as goal

pub returns-clause-none : goal.returns-clause-none
returns-clause-none c = count_none

pub returns-clause-more : goal.returns-clause-more
returns-clause-more c = count_one_more

pub returns-clause-rises : goal.returns-clause-rises
returns-clause-rises c = count_rises

pub returns-clause-none_counted : goal.returns-clause-none_counted
returns-clause-none_counted c = counted_none

pub returns-clause-more_counted : goal.returns-clause-more_counted
returns-clause-more_counted c = counted_one_more
