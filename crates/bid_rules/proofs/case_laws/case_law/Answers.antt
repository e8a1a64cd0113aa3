use Rattle.bid_rules.proofs.ValidCases.{same_facts, valid_made}
use Rattle.bid_rules.proofs.case_laws.case_law.Goals as goal

pub returns-clause-facts : goal.returns-clause-facts
returns-clause-facts c = same_facts

pub returns-clause-valid : goal.returns-clause-valid
returns-clause-valid c = valid_made
