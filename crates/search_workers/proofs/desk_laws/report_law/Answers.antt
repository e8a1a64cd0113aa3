use Rattle.search_workers.proofs.DeskSteps.{report_keeps, report_others, report_reported, report_stops}
use Rattle.search_workers.proofs.desk_laws.report_law.Goals as goal

pub returns-clause-keeps : goal.returns-clause-keeps
returns-clause-keeps c = report_keeps

pub returns-clause-reported : goal.returns-clause-reported
returns-clause-reported c = λ place count state view at. report_reported state place count view at

pub returns-clause-stops : goal.returns-clause-stops
returns-clause-stops c = λ place count state view at. report_stops state place count view at

pub returns-clause-others : goal.returns-clause-others
returns-clause-others c = λ place count state view weight at. report_others state place count view weight at
