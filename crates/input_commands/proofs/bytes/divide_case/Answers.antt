use Rattle.std.proofs.Common.{Err, subst}
use Rattle.split_json.specs.Reading.{case_data_of}
use Rattle.split_solve.specs.Solving.{IsSolved}
use Rattle.input_commands.proofs.bytes.divide_case.Goals as goal

pub returns-in-Err : goal.returns-in-Err
returns-in-Err c =
    c.stop_of.ensures c.args.sort (case_data_of c.args.input.now)
    (subst (λ bids. IsSolved c.args.input.now.facts bids (Err c.in-Err.fault)) c.as_slice.ensures.value c.in-Err.ensures.solved)
