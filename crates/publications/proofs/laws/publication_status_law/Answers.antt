use Rattle.publications.proofs.Statuses.{publication_status}
use Rattle.publications.proofs.laws.publication_status_law.Goals as goal

pub returns : goal.returns
returns c = publication_status
