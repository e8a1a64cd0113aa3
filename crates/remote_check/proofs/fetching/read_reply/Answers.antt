use Rattle.remote_check.proofs.AnswerLemmas.{bad_says, head_unsettled}
use Rattle.remote_check.proofs.HeadLemmas.{came, nothing_to_come}
use Rattle.remote_check.proofs.fetching.read_reply.Goals as goal

pub returns-in-End-clause-says : goal.returns-in-End-clause-says
returns-in-End-clause-says g c = bad_says _ (nothing_to_come _ _ _ c.new-held.ensures c.in-End.ensures.same c.in-End.ensures.says)

pub returns-in-Fault-clause-unsettled : goal.returns-in-Fault-clause-unsettled
returns-in-Fault-clause-unsettled g c is = head_unsettled _ _ _ _ (came _ _ _ c.new-held.ensures c.in-Fault.ensures.same) c.in-Fault.ensures.ahead
