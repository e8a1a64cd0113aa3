use Rattle.std.proofs.Common.{◌∙◌, ap, sym, subst, map, List}
use Rattle.split_frac.specs.Frac.{fraction_of}
use Rattle.split_frac.specs.declared.frac.Frac.{Frac}
use Rattle.fare_audit.specs.declared.audit.FareAudit.{FareAudit}
use Rattle.fare_audit.specs.Excesses.{IsFareAudit}
use Rattle.fare_audit.specs.Texts.{fare_audit_text}
use Rattle.fare_audit.proofs.OneAudit.{one_audit}
use Rattle.fare_audit.proofs.laws.one_audit_law.Goals as goal

pub returns-clause-audit : goal.returns-clause-audit
returns-clause-audit c = one_audit c.value_law.ensures.value

pub returns-clause-text : goal.returns-clause-text
returns-clause-text c title case division others text other is was (audit, made, told) (again, found, says) =
    let same = c.division_law.ensures.fares case division.fares.items others.fares.items division.route.items others.route.items is.best was.best in
    let one = one_audit c.value_law.ensures.value case others.fares.items audit again (subst (λ (fs : List Frac). IsFareAudit case (map fraction_of fs) audit) same made) found in
    told ∙ ap (λ (a : FareAudit). fare_audit_text title case a) one ∙ sym says
