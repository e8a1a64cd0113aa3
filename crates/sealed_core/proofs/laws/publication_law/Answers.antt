use Rattle.sealed_core.proofs.Publishing.{publishes}
use Rattle.sealed_core.proofs.laws.publication_law.Goals as goal

pub returns-clause-asked : goal.returns-clause-asked
returns-clause-asked c h t id command what is = (publishes h t command id what is).asked

pub returns-clause-stands : goal.returns-clause-stands
returns-clause-stands c h t id command what is = (publishes h t command id what is).stands

pub returns-clause-event : goal.returns-clause-event
returns-clause-event c h t id command what is = (publishes h t command id what is).event

pub returns-clause-closed : goal.returns-clause-closed
returns-clause-closed c h t id command what is = (publishes h t command id what is).closed
