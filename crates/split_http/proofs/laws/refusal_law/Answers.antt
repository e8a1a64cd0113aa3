use Rattle.split_http.proofs.RefusalLemmas.{refusal_row}
use Rattle.split_http.proofs.laws.refusal_law.Goals as goal

pub returns : goal.returns
returns c = record { range = refusal_row }
