use Rattle.std.proofs.Common.{◌≡◌, rules, subst, sym}
use Rattle.gate_log.specs.Records.{IsBody}
use Rattle.sealed_core.specs.Host.{event_view}
use Rattle.host_journal.specs.Spelling.{spelling}
use Rattle.host_journal.proofs.Fits.{fits_event, fits_rules}
use Rattle.host_journal.proofs.Sizes.{event_body}
use Rattle.host_journal.proofs.writing.spell_event.Goals as goal

pub returns-clause-event : goal.returns-clause-event
returns-clause-event c = λ h can. fits_event h (event_view c.args.event.now) c.put_event.ensures.fits can

pub returns-clause-rules : goal.returns-clause-rules
returns-clause-rules c = λ kept. fits_rules (event_view c.args.event.now) c.put_event.ensures.fits kept

pub returns-clause-size : goal.returns-clause-size
returns-clause-size c = λ kept.
    let e = event_view c.args.event.now in
    let spelled : c.put_event.new.body.items ≡ spelling e = search rules in
    subst IsBody (sym spelled) (event_body e (fits_rules e c.put_event.ensures.fits kept))
