use Rattle.serde_json.specs.View.{view}
use Rattle.split_json.proofs.ReadyCreations.{read-checked}
use Rattle.split_json.proofs.creations.read_creation.Goals as goal

pub returns-in-Ok-clause-checked : goal.returns-in-Ok-clause-checked
returns-in-Ok-clause-checked c = read-checked (view c.in-Some.value) c.in-Ok.creation c.in-Ok.ensures.creation c.in-Ok.ensures.last
