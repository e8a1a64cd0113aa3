use Rattle.std.proofs.Common.{None, subst}
use Rattle.nash_search.specs.declared.division.GoodsDivision.{GoodsDivision}
use Rattle.goods_audit.specs.Texts.{IsDivisionAudit}
use Rattle.goods_audit.proofs.OneText.{one_audit, one_text}
use Rattle.goods_audit.proofs.laws.one_goods_audit_law.Goals as goal

pub returns-clause-division : goal.returns-clause-division
returns-clause-division c given case division others text other is was told again =
    let same = c.step_count_law.ensures.one_division case division others is was in
    one_text given case others.owners.items None text other (subst (λ (d : GoodsDivision). IsDivisionAudit given case d text) same told) again

pub returns-clause-owners : goal.returns-clause-owners
returns-clause-owners c = one_audit
