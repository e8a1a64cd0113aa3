use Rattle.winner_definition.proofs.Procedures.{outcome_winner, richer_from_first}
use Rattle.winner_definition.proofs.laws.procedure_law.Goals as goal

pub returns-clause-winner : goal.returns-clause-winner
returns-clause-winner c = outcome_winner

pub returns-clause-richer : goal.returns-clause-richer
returns-clause-richer c = richer_from_first
