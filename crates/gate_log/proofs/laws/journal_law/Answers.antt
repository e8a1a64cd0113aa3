use Rattle.gate_log.proofs.Total.{has_meaning}
use Rattle.gate_log.proofs.Unique.{one_meaning, no_fault, one_fault}
use Rattle.gate_log.proofs.laws.journal_law.Goals as goal

pub returns-clause-one_meaning : goal.returns-clause-one_meaning
returns-clause-one_meaning c = one_meaning

pub returns-clause-no_fault : goal.returns-clause-no_fault
returns-clause-no_fault c = no_fault

pub returns-clause-one_fault : goal.returns-clause-one_fault
returns-clause-one_fault c = one_fault

pub returns-clause-meaning : goal.returns-clause-meaning
returns-clause-meaning c = has_meaning
