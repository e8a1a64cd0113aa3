use Rattle.std.proofs.Common.{refl}
use Rattle.host_journal.proofs.Passing.{passes_none, passes_then, three_states}
use Rattle.host_journal.proofs.StateFiles.{opened_files}
use Rattle.host_journal.proofs.state_laws.passing_law.Goals as goal

pub returns-clause-still : goal.returns-clause-still
returns-clause-still g c serving disk s stands = passes_none g.D.Disk g.met.D.Disk.only_now serving disk disk s stands refl

pub returns-clause-between : goal.returns-clause-between
returns-clause-between g c = three_states g.D.Disk

pub returns-clause-joined : goal.returns-clause-joined
returns-clause-joined g c = passes_then g.D.Disk

pub returns-clause-opened : goal.returns-clause-opened
returns-clause-opened g c = opened_files
