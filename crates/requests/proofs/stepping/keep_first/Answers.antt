use Rattle.requests.proofs.Leading.{leads_as}
use Rattle.sealed_core.specs.Host.{event_view}
use Rattle.reply_texts.specs.Contents.{content_view}
use Rattle.requests.proofs.Stepped.{kept_by, kept_ok}
use Rattle.requests.proofs.stepping.keep_first.Goals as goal

pub returns-clause-kept : goal.returns-clause-kept
returns-clause-kept g c s stands =
    leads_as g.D.Disk _ _ _ s _ _ (c.in_default.ensures.kept s stands) (λ new p. kept_ok g.D.Disk _ _ (event_view c.args.event) (content_view c.args.due) s new (tt {0}) p)

pub returns-in-Err-clause-kept : goal.returns-in-Err-clause-kept
returns-in-Err-clause-kept g c s stands =
    leads_as g.D.Disk _ _ _ s _ _ (c.in-Err.ensures.kept s stands)
    (λ new p. kept_by g.D.Disk _ _ (event_view c.args.event) (content_view c.args.due) s new c.in-Err.fault (content_view c.failure.result) c.failure.ensures p)
