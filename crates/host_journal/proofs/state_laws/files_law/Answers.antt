use Rattle.host_journal.proofs.StateFiles.{files_of}
use Rattle.host_journal.proofs.state_laws.files_law.Goals as goal

pub returns : goal.returns
returns g c = files_of g.D.Disk
