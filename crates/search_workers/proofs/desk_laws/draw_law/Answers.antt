use Rattle.search_workers.proofs.DeskSteps.{draw_keeps, draw_others, draw_tickets, tickets_below}
use Rattle.search_workers.proofs.desk_laws.draw_law.Goals as goal

pub returns-clause-keeps : goal.returns-clause-keeps
returns-clause-keeps c = draw_keeps

pub returns-clause-above : goal.returns-clause-above
returns-clause-above c = λ left workers place state view is at. tickets_below left workers state place view is at

pub returns-clause-tickets : goal.returns-clause-tickets
returns-clause-tickets c = λ place state view weight at. draw_tickets state place view weight at

pub returns-clause-others : goal.returns-clause-others
returns-clause-others c = λ place state view at. draw_others state place view at
