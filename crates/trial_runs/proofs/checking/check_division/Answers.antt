use Rattle.std.proofs.Common.{Ok, Some, sym, ap, ◌∙◌, subst}
use Rattle.cert_checker.specs.Judged.{IsCertificate}
use Rattle.trial_runs.proofs.ReadBack.{is_checked, never_no}
use Rattle.trial_runs.proofs.checking.check_division.Goals as goal

pub unreachable-requires : goal.unreachable-requires
unreachable-requires c =
    let judged = c.judge_text.ensures.judged in
    let same = c.new-source.ensures ∙ c.as_slice.ensures.value in
    let kept = subst IsCertificate (sym same) c.in_ok-certificate.ensures.certificate in
    never_no c.certificate_verdict_law.ensures.one c.new-source.result judged.0 (Some c.judge_text.new.source) c.judge_text.result c.in-Ok-No.field-0-0 (c.in-Ok-No.is ∙ ap Ok c.in-Ok-No.field-0-is) kept judged.1 judged.2

pub returns : goal.returns
returns c =
    let written = c.in_ok-certificate.ensures in
    is_checked c.division_law.ensures c.args.case.now c.args.division.now c.in_ok-certificate.certificate.items c.requires.case c.requires.division written.canonical written.certificate
