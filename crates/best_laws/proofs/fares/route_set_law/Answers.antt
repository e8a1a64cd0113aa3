use Rattle.best_laws.proofs.CostEntries.{are_costs, cost_of_none, entries_are, first_is, route_of_set}
use Rattle.best_laws.proofs.fares.route_set_law.Goals as goal

pub returns-clause-none : goal.returns-clause-none
returns-clause-none c = cost_of_none

pub returns-clause-recurrence : goal.returns-clause-recurrence
returns-clause-recurrence c = route_of_set

pub returns-clause-first : goal.returns-clause-first
returns-clause-first c = first_is

pub returns-clause-entries : goal.returns-clause-entries
returns-clause-entries c = entries_are

pub returns-clause-costs : goal.returns-clause-costs
returns-clause-costs c = are_costs
