use Rattle.std.proofs.Common.{refl}
use Rattle.requests.proofs.Leading.{leads_as, leads_still}
use Rattle.requests.specs.Cases.{Responds}
use Rattle.reply_texts.specs.Contents.{content_view}
use Rattle.requests.proofs.Performed.{performed_responds}
use Rattle.requests.proofs.Unrouted.{unrouted_responds}
use Rattle.requests.proofs.responding.respond.Goals as goal

pub returns-in-Err-clause-responds : goal.returns-in-Err-clause-responds
returns-in-Err-clause-responds g c s stands =
    leads_still g.D.Disk c.passing_law.ensures.still c.args.serving.now c.args.disk.now s _ stands
    (unrouted_responds g.D.Disk c.args.disk.now c.args.head.now c.args.body.now c.args.moment s c.in-Err.fault (content_view c.unrouted.result) c.in-Err.ensures c.unrouted.ensures)

pub returns-in_default-clause-responds : goal.returns-in_default-clause-responds
returns-in_default-clause-responds g c s stands =
    leads_still g.D.Disk c.passing_law.ensures.still c.args.serving.now c.args.disk.now s _ stands
    (Responds.memory c.in-Ok.route c.in-Ok.ensures c.in_default.ensures.memory refl refl c.out_of_memory.ensures)

pub returns-clause-responds : goal.returns-clause-responds
returns-clause-responds g c s stands =
    leads_as g.D.Disk _ _ _ s _ _ (c.perform.ensures.performed s stands)
    (λ new p. performed_responds g.D.Disk _ _ c.args.head.now c.args.body.now c.args.moment s new (content_view c.perform.result) c.in-Ok.route c.in-Ok.ensures _ c.in-Ok-command_of.ensures.command p)
