use Rattle.std.proofs.Common.{◌++◌, Ok}
use Rattle.rule_verdicts.specs.declared.verdict.Verdict.TheVariants.{Yes}
use Rattle.program_laws.proofs.Taken.{due_taken, reply_taken}
use Rattle.program_laws.proofs.replies.host_reply_law.Goals as goal

pub returns-clause-reply : goal.returns-clause-reply
returns-clause-reply c = reply_taken

pub returns-clause-due : goal.returns-clause-due
returns-clause-due c = due_taken

pub returns-clause-yes : goal.returns-clause-yes
returns-clause-yes c case due bytes rest text valid canonical bring are =
    c.fetched_law.ensures.certificate (bytes ++ rest) text
    (due_taken due bytes rest text bring are (c.certificate_law.ensures.short case text valid canonical))
    (c.certificate_law.ensures.certificate case text valid canonical)

pub returns-clause-only : goal.returns-clause-only
returns-clause-only c case due bytes rest text valid canonical bring are result says other =
    c.fetched_law.ensures.one (bytes ++ rest) (Ok Yes) result
    (c.fetched_law.ensures.certificate (bytes ++ rest) text
    (due_taken due bytes rest text bring are (c.certificate_law.ensures.short case text valid canonical))
    (c.certificate_law.ensures.certificate case text valid canonical))
    (says other)
