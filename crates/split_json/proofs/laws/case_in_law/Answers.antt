use Rattle.split_json.proofs.ReadyCases.{case_in-ready}
use Rattle.split_json.proofs.laws.case_in_law.Goals as goal

pub returns : goal.returns
returns c = case_in-ready
