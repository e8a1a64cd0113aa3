use Rattle.search_workers.proofs.FromRule.{all_drawn, all_part, all_whole, one_has, whole_best}
use Rattle.search_workers.proofs.TicketTasks.{RowLaws}
use Rattle.search_workers.proofs.rule_laws.walked_block_law.Goals as goal

-- the laws of rows, from the call
rows : goal.After-tasks_in_row_law → RowLaws
rows c = let law = c.tasks_in_row_law.ensures in record { none = law.none; more = law.more; rises = law.rises; none_counted = law.none_counted; more_counted = law.more_counted }

pub returns-clause-drawn : goal.returns-clause-drawn
returns-clause-drawn c = λ case floor above block left workers state rule each. all_drawn left workers state rule case floor above block each

pub returns-clause-each : goal.returns-clause-each
returns-clause-each c = λ case floor above block left workers ticket state rule each inside. one_has left workers state rule case floor above block each ticket inside

pub returns-clause-whole : goal.returns-clause-whole
returns-clause-whole c = λ case floor above block left workers state rule each. all_whole left workers state rule case floor above block (rows c) each

pub returns-clause-part : goal.returns-clause-part
returns-clause-part c = λ case floor above block left workers state rule each. all_part left workers state rule case floor above block (rows c) each

pub returns-clause-best : goal.returns-clause-best
returns-clause-best c = λ case floor above block left workers place state view best rule at all is. whole_best left workers state rule case floor above block (rows c) place view best at all is
