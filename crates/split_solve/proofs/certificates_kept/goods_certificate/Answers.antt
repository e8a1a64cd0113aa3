use Rattle.std.proofs.Common.{sym, subst}
use Rattle.bid_rules.specs.declared.cases.Case.{Case}
use Rattle.certificates.specs.Canonical.{IsCanonical}
use Rattle.split_solve.proofs.certificates_kept.goods_certificate.Goals as goal

pub returns-in-Some : goal.returns-in-Some
returns-in-Some g c = subst (λ (one : Case). IsCanonical one c.in-Some.text.items) (sym c.requires.goods) c.in-Some.ensures
