use Rattle.std.proofs.Common.{rules}
use Rattle.host_journal.proofs.FirstFaults.{same_reason}
use Rattle.host_journal.proofs.opening.open_host.Goals as goal

pub returns-in_err-log-clause-exactly : goal.returns-in_err-log-clause-exactly
returns-in_err-log-clause-exactly g c tells place first =
    same_reason place c.open_in.result c.from_residual-in_err-log.result c.in_err-log.field-0.0 (search rules) (search rules) (c.open_in.ensures.exactly tells place first)
