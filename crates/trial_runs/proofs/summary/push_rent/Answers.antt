use Rattle.std.proofs.lemmas.Result.{on_ok_weaker}
use Rattle.trial_runs.proofs.summary.push_rent.Goals as goal

pub returns : goal.returns
returns c = on_ok_weaker c.push_line.result (λ line. (c.solve_rent-division.result, c.in_ok-check_division.ensures, line)) c.push_line.ensures
