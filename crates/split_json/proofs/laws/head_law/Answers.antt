use Rattle.split_json.proofs.ReadyCases.{head_of_object-ready}
use Rattle.split_json.proofs.laws.head_law.Goals as goal

pub returns : goal.returns
returns c = head_of_object-ready
