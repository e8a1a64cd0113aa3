use Rattle.split_top.proofs.SameOutput.{same_output}
use Rattle.split_top.proofs.laws.output_law.Goals as goal

pub returns : goal.returns
returns c = same_output c.input_answer_law.ensures.one c.input_answer_law.ensures.ends
