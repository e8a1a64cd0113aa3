use Rattle.winner_definition.proofs.SupportedDivisions.{efficient, envy_free}
use Rattle.winner_definition.proofs.laws.weights_law.Goals as goal

pub returns-clause-efficient : goal.returns-clause-efficient
returns-clause-efficient c = efficient

pub returns-clause-envy_free : goal.returns-clause-envy_free
returns-clause-envy_free c = envy_free
