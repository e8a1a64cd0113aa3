use Rattle.split_http.proofs.LawLemmas.{one_head}
use Rattle.split_http.proofs.laws.head_law.Goals as goal

pub returns : goal.returns
returns c = record { one = one_head }
