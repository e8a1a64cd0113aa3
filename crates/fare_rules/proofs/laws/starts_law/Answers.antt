use Rattle.fare_rules.proofs.StartLists.{listed, starts_apart, starts_within}
use Rattle.fare_rules.proofs.laws.starts_law.Goals as goal

pub returns-clause-listed : goal.returns-clause-listed
returns-clause-listed c = listed c.coalition_law.ensures.bits

pub returns-clause-within : goal.returns-clause-within
returns-clause-within c = starts_within

pub returns-clause-apart : goal.returns-clause-apart
returns-clause-apart c = starts_apart c.coalition_law.ensures.bits
