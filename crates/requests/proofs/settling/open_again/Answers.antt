use Rattle.requests.proofs.Leading.{leads_as}
use Rattle.reply_texts.specs.Contents.{content_view}
use Rattle.requests.proofs.Settled.{settled_by, settled_ok}
use Rattle.requests.proofs.settling.open_again.Goals as goal

pub returns-in-Ok-clause-settled : goal.returns-in-Ok-clause-settled
returns-in-Ok-clause-settled g c s stands =
    let leads = c.in-Ok.ensures.reopened s stands in
    record { new = leads.new; stands = leads.stands; passes = leads.passes; is = settled_ok g.D.Disk _ _ s leads.new (tt {0}) leads.stands.host.may_apply leads.is }

pub returns-in-Err-clause-settled : goal.returns-in-Err-clause-settled
returns-in-Err-clause-settled g c s stands =
    leads_as g.D.Disk _ _ _ s _ _ (c.in-Err.ensures.reopened s stands) (λ new p. settled_by g.D.Disk _ _ s new c.in-Err.fault (content_view c.failure.result) c.failure.ensures p)
