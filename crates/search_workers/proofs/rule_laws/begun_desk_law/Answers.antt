use Rattle.search_workers.proofs.FromRule.{begins}
use Rattle.search_workers.proofs.rule_laws.begun_desk_law.Goals as goal

pub returns : goal.returns
returns c = begins
