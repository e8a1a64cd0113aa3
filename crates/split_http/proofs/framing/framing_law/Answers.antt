use Rattle.split_http.proofs.FramingLemmas.{one_rule}
use Rattle.split_http.proofs.framing.framing_law.Goals as goal

pub returns : goal.returns
returns c = one_rule
