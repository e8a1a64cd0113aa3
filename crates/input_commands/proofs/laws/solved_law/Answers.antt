use Rattle.std.proofs.Common.{inr, refl}
use Rattle.input_commands.proofs.Solved.{is_brief, is_judged}
use Rattle.input_commands.proofs.laws.solved_law.Goals as goal

pub returns-clause-judged : goal.returns-clause-judged
returns-clause-judged c workers bytes text is =
    is_judged c.certificate_law.ensures.certificate c.certificate_law.ensures.short c.case_law.ensures.valid c.case_in_law.ensures workers bytes text is

pub returns-clause-due : goal.returns-clause-due
returns-clause-due c workers bytes text is = inr (
  is_brief c.certificate_law.ensures.certificate c.certificate_law.ensures.short c.case_law.ensures.valid c.case_in_law.ensures workers bytes text is,
  (is_judged c.certificate_law.ensures.certificate c.certificate_law.ensures.short c.case_law.ensures.valid c.case_in_law.ensures workers bytes text is, refl),
)
