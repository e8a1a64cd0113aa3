use Rattle.std.proofs.Common.{Some, refl}
use Rattle.serde_json.specs.View.{view}
use Rattle.split_json.specs.Reading.{case_data_of}
use Rattle.split_json.proofs.ReadyCases.{answer_of-ready}
use Rattle.split_json.proofs.cases.read_case.Goals as goal

pub returns-in-Ok-clause-checked : goal.returns-in-Ok-clause-checked
returns-in-Ok-clause-checked c = answer_of-ready (Some (view c.in-Some.value)) (case_data_of c.in-Ok.input) (rw (← c.in-Ok.ensures) refl)
