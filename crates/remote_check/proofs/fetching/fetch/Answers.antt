use Rattle.std.proofs.Common.{subst}
use Rattle.remote_check.specs.Fetched.{FetchSays}
use Rattle.remote_check.specs.Taken.{IsUnsettled}
use Rattle.remote_check.proofs.FetchLemmas.{asks_heard, asks_part, met_heard, met_nowhere}
use Rattle.remote_check.proofs.LawLemmas.{yes_told}
use Rattle.remote_check.proofs.fetching.fetch.Goals as goal

pub returns-in-Ok-clause-best : goal.returns-in-Ok-clause-best
returns-in-Ok-clause-best g c =
    yes_told c.fetched_law.ensures.best _ c.hear.result (subst (λ left. FetchSays left c.hear.result) c.in-Ok.ensures.left c.hear.ensures.says)

pub returns-in-Ok-clause-asked : goal.returns-in-Ok-clause-asked
returns-in-Ok-clause-asked g c =
    asks_heard _ _ _ _ _ _ _ _ _ _ _ _ c.hear.result c.in-Ok.ensures.whole c.hear.ensures.written c.in-Ok.ensures.reads c.in-Ok.ensures.count c.hear.ensures.faults c.hear.ensures.writes
    (λ is. subst (λ ahead. IsUnsettled ahead (g.L.Source.left c.hear.new.link) (g.L.Source.faults c.hear.new.link)) c.in-Ok.ensures.left (c.hear.ensures.unsettled is))

pub returns-in-Err-clause-asked : goal.returns-in-Err-clause-asked
returns-in-Err-clause-asked g c = asks_part _ _ _ _ _ _ _ _ _ c.in-Err.ensures.prefix c.in-Err.ensures.reads c.in-Err.ensures.count

pub returns-in-Ok-clause-over : goal.returns-in-Ok-clause-over
returns-in-Ok-clause-over g c = met_heard _ _ _ _ c.hear.result c.in-Ok.ensures.over c.hear.ensures.once c.hear.ensures.before_end

pub returns-in-Err-clause-over : goal.returns-in-Err-clause-over
returns-in-Err-clause-over g c = met_nowhere _ _ _ _ c.in-Err.ensures.over
