use Rattle.split_http.proofs.LawLemmas.{one_reply}
use Rattle.split_http.proofs.laws.reply_law.Goals as goal

pub returns : goal.returns
returns c = record { one = one_reply }
