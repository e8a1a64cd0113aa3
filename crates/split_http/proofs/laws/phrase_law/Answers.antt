use Rattle.split_http.proofs.StatusLemmas.{host_status-phrase}
use Rattle.split_http.proofs.laws.phrase_law.Goals as goal

pub returns : goal.returns
returns c = record { some = host_status-phrase }
