use Rattle.std.proofs.Common.{subst, sym}
use Rattle.cert_reader.specs.Views.{fares_view, goods_view, rent_view, view_of}
use Rattle.fare_rules.specs.Rules.{rules_of_fares}
use Rattle.goods_rules.specs.Rules.{rules_of_goods}
use Rattle.rent_rules.specs.Rules.{rules_of_rent}
use Rattle.rule_verdicts.specs.Verdicts.{IsVerdictOf}
use Rattle.cert_reader.specs.declared.certificate.Certificate.TheVariants.{Fares, Goods, Rent}
use Rattle.cert_checker.specs.Judged.{GivesVerdict, IsBest}
use Rattle.cert_checker.proofs.Judgements.{read_judged}
use Rattle.cert_checker.proofs.checking.check.Goals as goal

pub returns-in-Rent-clause-verdict : goal.returns-in-Rent-clause-verdict
returns-in-Rent-clause-verdict c = subst (λ certificate. GivesVerdict (view_of certificate) c.check_rent.result) (sym c.in-Rent.is) c.check_rent.ensures

pub returns-in-Goods-clause-verdict : goal.returns-in-Goods-clause-verdict
returns-in-Goods-clause-verdict c = subst (λ certificate. GivesVerdict (view_of certificate) c.check_goods.result) (sym c.in-Goods.is) c.check_goods.ensures

pub returns-in-Fares-clause-verdict : goal.returns-in-Fares-clause-verdict
returns-in-Fares-clause-verdict c = subst (λ certificate. GivesVerdict (view_of certificate) c.check_fares.result) (sym c.in-Fares.is) c.check_fares.ensures

pub returns-in-Rent-clause-best : goal.returns-in-Rent-clause-best
returns-in-Rent-clause-best c agreed =
    let law = c.rent_certificate_law.ensures in
    let view = rent_view c.in-Rent.text in
    let kept = subst (IsVerdictOf (rules_of_rent view)) agreed c.check_rent.ensures in
    subst (λ certificate. IsBest (view_of certificate)) (sym c.in-Rent.is) (law.valid view kept, law.best view kept)

pub returns-in-Fares-clause-best : goal.returns-in-Fares-clause-best
returns-in-Fares-clause-best c agreed =
    let law = c.fares_certificate_law.ensures in
    let view = fares_view c.in-Fares.text in
    let kept = subst (IsVerdictOf (rules_of_fares view)) agreed c.check_fares.ensures in
    subst (λ certificate. IsBest (view_of certificate)) (sym c.in-Fares.is) (law.valid view kept, law.best view kept)

pub returns-in-Goods-clause-best : goal.returns-in-Goods-clause-best
returns-in-Goods-clause-best c agreed =
    let law = c.goods_certificate_law.ensures in
    let view = goods_view c.in-Goods.text in
    let kept = subst (IsVerdictOf (rules_of_goods view)) agreed c.check_goods.ensures in
    subst (λ certificate. IsBest (view_of certificate)) (sym c.in-Goods.is) (law.valid view kept, law.best view kept, law.owners view kept)

pub returns-in-Rent-clause-judged : goal.returns-in-Rent-clause-judged
returns-in-Rent-clause-judged c bytes text = read_judged bytes c.args.certificate.now (Rent c.in-Rent.text) c.check_rent.result c.in-Rent.is c.check_rent.ensures text

pub returns-in-Goods-clause-judged : goal.returns-in-Goods-clause-judged
returns-in-Goods-clause-judged c bytes text = read_judged bytes c.args.certificate.now (Goods c.in-Goods.text) c.check_goods.result c.in-Goods.is c.check_goods.ensures text

pub returns-in-Fares-clause-judged : goal.returns-in-Fares-clause-judged
returns-in-Fares-clause-judged c bytes text = read_judged bytes c.args.certificate.now (Fares c.in-Fares.text) c.check_fares.result c.in-Fares.is c.check_fares.ensures text
