use Rattle.std.proofs.Common.{arith}
use Rattle.host_journal.proofs.Events.{is_found, is_none, is_again, never}
use Rattle.host_journal.proofs.reading.read_event.Goals as goal

pub returns-in_err-whole_of-clause-none : goal.returns-in_err-whole_of-clause-none
returns-in_err-whole_of-clause-none c = rw c.from_residual.ensures (never c.args.body.now c.in_err-whole_of.ensures)

pub returns-in_err-whole_of-clause-again : goal.returns-in_err-whole_of-clause-again
returns-in_err-whole_of-clause-again c = λ e spells. absurd (never c.args.body.now c.in_err-whole_of.ensures e spells)

pub returns-clause-found : goal.returns-clause-found
returns-clause-found c = is_found c.args.body.now c.in_ok-whole_of.field-0 c.with_rules.result (λ i. omega (arith, c.type_inv.body i)) c.in_ok-whole_of.ensures c.with_rules.ensures.same c.with_rules.ensures.kept

pub returns-clause-none : goal.returns-clause-none
returns-clause-none c = is_none c.args.body.now c.in_ok-whole_of.field-0 c.with_rules.result c.in_ok-whole_of.ensures c.with_rules.ensures.broken

pub returns-clause-again : goal.returns-clause-again
returns-clause-again c = is_again c.args.body.now c.in_ok-whole_of.field-0 c.with_rules.result c.in_ok-whole_of.ensures c.with_rules.ensures.same c.with_rules.ensures.broken
