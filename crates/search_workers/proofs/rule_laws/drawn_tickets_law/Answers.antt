use Rattle.search_workers.proofs.FromRule.{has_alone, has_once, is_drawn}
use Rattle.search_workers.proofs.rule_laws.drawn_tickets_law.Goals as goal

pub returns-clause-drawn : goal.returns-clause-drawn
returns-clause-drawn c = λ left workers ticket state rule below. is_drawn left workers state rule ticket below

pub returns-clause-once : goal.returns-clause-once
returns-clause-once c = λ left workers place state view rule at. has_once left workers state rule place view at

pub returns-clause-apart : goal.returns-clause-apart
returns-clause-apart c = λ left workers place other ticket state view seen rule at there mine others. has_alone left workers state rule place other ticket view seen at there mine others
