use Rattle.std.proofs.Common.{refl, rules}
use Rattle.host_journal.specs.States.{lists_of}
use Rattle.host_journal.proofs.FirstFaults.{same_reason}
use Rattle.host_journal.proofs.reopening.open.Goals as goal

pub returns-in_err-host-clause-any_moment : goal.returns-in_err-host-clause-any_moment
returns-in_err-host-clause-any_moment g c h s = c.open_host.ensures.any_moment h s.secret (lists_of s.kept s.waiting)

pub returns-clause-any_moment : goal.returns-clause-any_moment
returns-clause-any_moment g c h s = c.open_host.ensures.any_moment h s.secret (lists_of s.kept s.waiting)

pub returns-in_err-host-clause-place : goal.returns-in_err-host-clause-place
returns-in_err-host-clause-place g c tells place is = c.open_host.ensures.not_a_log tells place (search rules)

pub returns-in_err-host-clause-exactly : goal.returns-in_err-host-clause-exactly
returns-in_err-host-clause-exactly g c tells place first =
    same_reason place c.open_host.result c.from_residual-in_err-host.result c.in_err-host.field-0.0 (search rules) (search rules) (c.open_host.ensures.exactly tells place first)

pub returns-clause-opened : goal.returns-clause-opened
returns-clause-opened g c =
    let (secret, kept, made) = c.in_ok-host.ensures.made in record {
      secret = secret;
      kept = kept;
      stands = record { host = made.of_events; waiting = refl; next = tt; file = λ h. (made.of_file.holds (c.open_host.ensures.honest.1 h)).journal };
      read = made.of_file.read;
      file = λ h. let opened = made.of_file.holds h in record { before = opened.before; now = opened.after; one = c.in_ok-host.ensures.one h; calls = c.in_ok-host.ensures.done h };
    }
