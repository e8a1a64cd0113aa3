use Rattle.std.proofs.Common.{refl, ap, subst, IfSome, None, Some, option_map}
use Rattle.std.specs.Prelude.{Option}
use Rattle.requests.proofs.Leading.{leads_as, leads_still}
use Rattle.sealed_core.specs.declared.events.Event.{Event}
use Rattle.sealed_core.specs.declared.replies.Reply.TheVariants as reply
use Rattle.sealed_core.specs.Host.{CanApply, HostView, event_view}
use Rattle.sealed_core.specs.Step.{answer_view, command_view}
use Rattle.requests.specs.Cases.{Steps}
use Rattle.reply_texts.specs.Contents.{content_view}
use Rattle.requests.proofs.Stepped.{event_is, replied, reply_is, stepped}
use Rattle.requests.proofs.stepping.step.Goals as goal

pub returns-in_default-clause-stepped : goal.returns-in_default-clause-stepped
returns-in_default-clause-stepped g c s stands =
    let (id, asked, publishes) = c.in_default.ensures.memory in
    let replies = reply_is c.args.serving.now.host.content s stands.host.is_host c.args.moment (command_view c.args.command) (answer_view c.answer-answered.result) c.answer-answered.ensures.step
    (reply.Publish id asked) publishes in
    leads_still g.D.Disk c.passing_law.ensures.still c.args.serving.now c.args.disk.now s _ stands (Steps.memory id asked replies refl refl c.out_of_memory.ensures)

pub returns-in_default-event-clause-stepped : goal.returns-in_default-event-clause-stepped
returns-in_default-event-clause-stepped g c s stands =
    let h = c.args.serving.now.host.content in
    let command = command_view c.args.command in
    let a = answer_view c.answer-answered.result in
    let is = c.answer-answered.ensures.step in
    let told = content_view c.in-Ok.said in
    leads_still g.D.Disk c.passing_law.ensures.still c.args.serving.now c.args.disk.now s _ stands
    (Steps.no_event told (event_is h s stands.host.is_host c.args.moment command a is None (ap (option_map event_view) c.in_default-event.is)) refl
    (replied h s stands.host.is_host c.args.moment command a is told c.in-Ok.ensures.shown) refl refl)

pub returns-clause-stepped : goal.returns-clause-stepped
returns-clause-stepped g c s stands =
    let h = c.args.serving.now.host.content in
    let command = command_view c.args.command in
    let a = answer_view c.answer-answered.result in
    let is = c.answer-answered.ensures.step in
    let told = content_view c.in-Ok.said in
    let event = event_view c.in-Some.event in
    leads_as g.D.Disk _ _ _ s _ _ (c.keep_first.ensures.kept s stands)
    (λ new p. stepped g.D.Disk _ _ event told told s new _ c.args.moment command
    (event_is h s stands.host.is_host c.args.moment command a is (Some event) (ap (option_map event_view) c.in-Some.is))
    (subst (λ (x : HostView). CanApply x event) stands.host.is_host
    (subst (λ (o : Option Event). IfSome o (λ e. CanApply h (event_view e))) c.in-Some.is c.answer-answered.ensures.applicable))
    (replied h s stands.host.is_host c.args.moment command a is told c.in-Ok.ensures.shown) refl p)
