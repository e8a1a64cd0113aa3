use Rattle.std.proofs.Common.{List, ℕ, None, IfOk, subst}
use Rattle.std.proofs.lemmas.Result.{IfOk-weaker}
use Rattle.split_reports.specs.Names.{shown_names}
use Rattle.goods_audit.specs.Texts.{IsAuditText}
use Rattle.goods_audit.proofs.texts.division_audit.Goals as goal

pub returns-clause-audit : goal.returns-clause-audit
returns-clause-audit c =
    subst (λ (owners : List ℕ). IfOk c.named_audit.result (λ text. IsAuditText (shown_names c.args.names.now) c.args.case.now owners None text.items)) c.as_slice.ensures.value c.named_audit.ensures

pub returns-clause-fair : goal.returns-clause-fair
returns-clause-fair c =
    let case = c.args.case.now in
    let owners = c.args.division.now.owners.items in
    let given = shown_names c.args.names.now in
    let best = c.requires.division.best in
    let audit = subst (λ (xs : List ℕ). IfOk c.named_audit.result (λ text. IsAuditText given case xs None text.items)) c.as_slice.ensures.value c.named_audit.ensures in
    IfOk-weaker c.named_audit.result _ _ (λ text h. c.fair_audit_law.ensures.fair given case owners text.items (best.0, best.1, best.2) h) audit
