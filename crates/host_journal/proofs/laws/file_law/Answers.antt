use Rattle.host_journal.proofs.FileSize.{kept_place}
use Rattle.host_journal.proofs.laws.file_law.Goals as goal

pub returns : goal.returns
returns c version secret events file has = kept_place version secret events has.kept
