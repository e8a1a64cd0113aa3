use Rattle.bid_rules.specs.Goods.{player_count}
use Rattle.nash_bounds.specs.Tasks.{task_list}
use Rattle.nash_bounds.proofs.OpenCounts.{enough_lists, few_shorter}
use Rattle.nash_bounds.proofs.PrefixLists.{below_rises, task_begins, task_prefixes}
use Rattle.nash_bounds.proofs.RisingLists.{rising_once}
use Rattle.nash_bounds.proofs.TaskLists.{depth_short}
use Rattle.nash_bounds.proofs.step_laws.tasks_law.Goals as goal

pub returns-clause-within : goal.returns-clause-within
returns-clause-within c = depth_short

pub returns-clause-enough : goal.returns-clause-enough
returns-clause-enough c = enough_lists

pub returns-clause-least : goal.returns-clause-least
returns-clause-least c = few_shorter

pub returns-clause-begins : goal.returns-clause-begins
returns-clause-begins c = task_begins

pub returns-clause-prefixes : goal.returns-clause-prefixes
returns-clause-prefixes c = task_prefixes

pub returns-clause-once : goal.returns-clause-once
returns-clause-once c = λ case task. rising_once _ (below_rises (player_count case) _ (task_list case task))
