use Rattle.split_http.proofs.LawLemmas.{one_turn, one_body}
use Rattle.split_http.proofs.laws.cut_law.Goals as goal

pub returns-clause-head : goal.returns-clause-head
returns-clause-head c = one_turn

pub returns-clause-body : goal.returns-clause-body
returns-clause-body c = one_body
