use Rattle.std.proofs.Common.{◌∙◌, ap, sym, subst, map}
use Rattle.split_lemmas.proofs.Moments.{weaker}
use Rattle.gate_log.specs.Records.{IsBody}
use Rattle.sealed_core.specs.Host.{HostView, apply, event_view}
use Rattle.host_journal.specs.Spelling.{spelling}
use Rattle.host_journal.proofs.Appending.{either_events, next_journal}
use Rattle.host_journal.proofs.Kept.{made_push}
use Rattle.host_journal.proofs.Sizes.{event_body}
use Rattle.host_journal.proofs.commits.commit.Goals as goal

pub append-requires-clause-body : goal.append-requires-clause-body
append-requires-clause-body g c =
    let e = event_view c.args.event in
    subst IsBody (sym (c.deref.ensures.0 ∙ c.spell_event-body.ensures.spelled)) (event_body e (c.spell_event-body.ensures.event c.args.host.now.content c.requires.can))

pub returns-in-Err-clause-any_moment : goal.returns-in-Err-clause-any_moment
returns-in-Err-clause-any_moment g c = λ honest secret events j.
    weaker g.D.Disk.moment g.D.Disk.left_since c.args.disk.now c.append.new.disk _ _ (c.append.ensures.any_moment honest secret (map spelling events) j.is_log)
    (either_events (g.D.Disk.images c.args.disk.now) c.args.log.now c.args.host.now.content secret events (event_view c.args.event) c.deref.result.now j c.requires.version
    (c.spell_event-body.ensures.event c.args.host.now.content c.requires.can) c.requires.can (c.deref.ensures.0 ∙ c.spell_event-body.ensures.spelled))

pub returns-in-Err-clause-after : goal.returns-in-Err-clause-after
returns-in-Err-clause-after g c = λ honest secret events j d now.
    either_events (g.D.Disk.images c.args.disk.now) c.args.log.now c.args.host.now.content secret events (event_view c.args.event) c.deref.result.now j c.requires.version
    (c.spell_event-body.ensures.event c.args.host.now.content c.requires.can) c.requires.can (c.deref.ensures.0 ∙ c.spell_event-body.ensures.spelled) d
    (c.append.ensures.after honest secret (map spelling events) j.is_log d now)

pub returns-clause-acknowledged : goal.returns-clause-acknowledged
returns-clause-acknowledged g c = λ honest secret events j.
    next_journal (g.D.Disk.images c.args.disk.now) (g.D.Disk.images c.append.new.disk) c.args.log.now c.append.new.self c.args.host.now.content c.apply.new.host.content secret events (event_view c.args.event) c.deref.result.now j c.requires.version
    (c.spell_event-body.ensures.event c.args.host.now.content c.requires.can) c.requires.can (c.deref.ensures.0 ∙ c.spell_event-body.ensures.spelled) c.append.ensures.version
    (c.apply.ensures.content ∙ ap (λ (h : HostView). apply h (event_view c.args.event)) c.reserve.ensures.content) (c.in_default.ensures.acknowledged honest secret (map spelling events) j.is_log)

pub returns-clause-any_moment : goal.returns-clause-any_moment
returns-clause-any_moment g c = λ honest secret events j.
    weaker g.D.Disk.moment g.D.Disk.left_since c.args.disk.now c.append.new.disk _ _ (c.append.ensures.any_moment honest secret (map spelling events) j.is_log)
    (either_events (g.D.Disk.images c.args.disk.now) c.args.log.now c.args.host.now.content secret events (event_view c.args.event) c.deref.result.now j c.requires.version
    (c.spell_event-body.ensures.event c.args.host.now.content c.requires.can) c.requires.can (c.deref.ensures.0 ∙ c.spell_event-body.ensures.spelled))

pub returns-clause-after : goal.returns-clause-after
returns-clause-after g c = λ honest secret events j d now.
    either_events (g.D.Disk.images c.args.disk.now) c.args.log.now c.args.host.now.content secret events (event_view c.args.event) c.deref.result.now j c.requires.version
    (c.spell_event-body.ensures.event c.args.host.now.content c.requires.can) c.requires.can (c.deref.ensures.0 ∙ c.spell_event-body.ensures.spelled) d
    (c.append.ensures.after honest secret (map spelling events) j.is_log d now)

pub returns-clause-made : goal.returns-clause-made
returns-clause-made g c = λ secret events made.
    made_push c.args.host.now.content c.apply.new.host.content secret events (event_view c.args.event) made c.requires.can
    (c.apply.ensures.content ∙ ap (λ (h : HostView). apply h (event_view c.args.event)) c.reserve.ensures.content)
