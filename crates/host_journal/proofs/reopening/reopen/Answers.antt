use Rattle.std.proofs.Common.{refl, rules, ap, ◌∙◌, Ok, Err}
use Rattle.std.proofs.lemmas.Result.{err_from_is_err_and}
use Rattle.host_journal.proofs.FirstFaults.{same_reason}
use Rattle.host_journal.proofs.OpenedFiles.{waiting_event, was_faulty, was_opened}
use Rattle.host_journal.proofs.reopening.reopen.Goals as goal

pub returns-clause-reopened : goal.returns-clause-reopened
returns-clause-reopened g c s stands =
    let (e, waits) = waiting_event c.args.serving.now.waiting s.waiting c.requires stands.waiting in
    was_opened g.D.Disk c.args.serving.now c.args.disk.now c.open_in.new.disk s stands e waits (Ok (tt {0})) c.open_in.ensures.honest c.open_in.ensures.count c.open_in.ensures.any_moment
    c.open_in.ensures.after (g.met.D.Disk.seen_is_image c.args.disk.now) c.events_law.ensures.one_meaning c.go_on.new.serving refl c.in_ok-log.ensures.faults c.go_on.ensures.ready c.in_ok-log.ensures.one c.in_ok-log.ensures.done (rw c.go_on.ensures.host (rw c.go_on.ensures.log c.in_ok-log.ensures.made))

pub returns-in_err-log-clause-reopened : goal.returns-in_err-log-clause-reopened
returns-in_err-log-clause-reopened g c s stands =
    let r = err_from_is_err_and c.from_residual.result c.from_residual.ensures.1 in
    let (e, waits) = waiting_event c.args.serving.now.waiting s.waiting c.requires stands.waiting in
    rw (r.1, r.2) (was_faulty g.D.Disk c.args.serving.now c.args.disk.now c.open_in.new.disk s stands e waits _ c.open_in.ensures.honest c.open_in.ensures.count c.open_in.ensures.any_moment
    c.open_in.ensures.after (g.met.D.Disk.seen_is_image c.args.disk.now) _ refl refl c.events_law.ensures.no_fault (g.met.D.Disk.honest_tells c.args.disk.now) c.in_err-log.field-0.0 refl c.in_err-log.ensures.faults c.open_in.ensures.torn
    (λ t place is. c.open_in.ensures.not_a_log t place (c.in_err-log.was ∙ ap Err is))
    (λ memory. c.open_in.ensures.no_memory (c.in_err-log.was ∙ ap Err memory)))

pub returns-in_err-log-clause-place : goal.returns-in_err-log-clause-place
returns-in_err-log-clause-place g c tells place is = c.open_in.ensures.not_a_log tells place (search rules)

pub returns-clause-exactly : goal.returns-clause-exactly
returns-clause-exactly g c = c.in_ok-log.ensures.exactly

pub returns-in_err-log-clause-exactly : goal.returns-in_err-log-clause-exactly
returns-in_err-log-clause-exactly g c tells place first =
    same_reason place c.open_in.result c.from_residual.result c.in_err-log.field-0.0 (search rules) (search rules) (c.open_in.ensures.exactly tells place first)
