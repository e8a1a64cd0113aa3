use Rattle.host_journal.proofs.Events.{one_spelling}
use Rattle.host_journal.proofs.laws.spelling_law.Goals as goal

pub returns : goal.returns
returns c = one_spelling
