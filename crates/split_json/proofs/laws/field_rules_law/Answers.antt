use Rattle.split_json.proofs.WrittenBids.{place-iff, values-iff}
use Rattle.split_json.proofs.laws.field_rules_law.Goals as goal

pub returns-clause-places : goal.returns-clause-places
returns-clause-places c = place-iff

pub returns-clause-values : goal.returns-clause-values
returns-clause-values c = values-iff
