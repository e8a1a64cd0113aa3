use Rattle.std.proofs.Common.{Some, refl}
use Rattle.serde_json.specs.View.{view}
use Rattle.split_json.specs.Reading.{case_data_of}
use Rattle.split_json.proofs.ReadyProposals.{goods_answer-ready}
use Rattle.split_json.proofs.proposals.read_goods.Goals as goal

pub returns-in-Ok-clause-checked : goal.returns-in-Ok-clause-checked
returns-in-Ok-clause-checked c = goods_answer-ready (Some (view c.in-Some.value)) (case_data_of c.in-Ok.input) (rw (← c.in-Ok.ensures) refl)
