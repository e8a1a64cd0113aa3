use Rattle.std.proofs.Common.{◌≡◌, List, ℕ, subst, sym}
use Rattle.cert_reader.specs.Views.{CertificateView, view_of}
use Rattle.rule_verdicts.specs.declared.verdict.Verdict.{Verdict}
use Rattle.rule_verdicts.specs.declared.verdict.Verdict.TheVariants.{Yes}
use Rattle.cert_checker.specs.Judged.{GivesVerdict, IsJudged, SaysView, rule_count, rule_of}
use Rattle.cert_checker.proofs.Judgements.{given, judged, rows_read, some_verdict}
use Rattle.cert_checker.proofs.Kept.{best_kept, rows_kept, verdict_once}
use Rattle.cert_checker.proofs.SaidViews.{view_said}
use Rattle.cert_checker.proofs.laws.certificate_verdict_law.Goals as goal

-- the verdict on bytes is what the rules give on the view that they say
gives_on : (c : goal.After-fares_certificate_law) (bytes : List ℕ) (view : CertificateView) (verdict : Verdict) → SaysView bytes view → IsJudged bytes verdict → GivesVerdict view verdict
gives_on c bytes view verdict says h =
    let g = given bytes verdict h in
    let same : view ≡ g.view = c.text_law.ensures.views bytes g.view view g.says.rows says.rows g.says.is_text says.is_text in
    subst (λ v. GivesVerdict v verdict) (sym same) g.gives

pub returns-clause-one : goal.returns-clause-one
returns-clause-one c bytes verdict other h k =
    let g = given bytes verdict h in
    verdict_once c.rent_certificate_law.ensures.one c.goods_certificate_law.ensures.one c.fares_certificate_law.ensures.one g.view verdict other g.gives (gives_on c bytes g.view other g.says k)

pub returns-clause-whole : goal.returns-clause-whole
returns-clause-whole c bytes verdict line h broken = c.text_law.ensures.whole bytes _ _ line (given bytes verdict h).says.is_text broken

pub returns-clause-said : goal.returns-clause-said
returns-clause-said c = view_said

pub returns-clause-verdict : goal.returns-clause-verdict
returns-clause-verdict c bytes view verdict says = (gives_on c bytes view verdict says, judged bytes view verdict says)

pub returns-clause-some : goal.returns-clause-some
returns-clause-some c bytes none counts said text =
    let v = view_said bytes counts said text in
    some_verdict (rule_of v.0) (rule_count v.0) (λ verdict gives. none verdict (judged bytes v.0 verdict v.1 gives))

pub returns-clause-checked : goal.returns-clause-checked
returns-clause-checked c bytes certificate verdict text =
    let says : SaysView bytes (view_of certificate) = record { is_text = text; rows = rows_read certificate } in
    (gives_on c bytes (view_of certificate) verdict says, judged bytes (view_of certificate) verdict says)

pub returns-clause-best : goal.returns-clause-best
returns-clause-best c bytes h =
    let rent = c.rent_certificate_law.ensures in
    let goods = c.goods_certificate_law.ensures in
    let fares = c.fares_certificate_law.ensures in
    let g = given bytes Yes h in
    record { view = g.view; is_text = g.says.is_text; best = best_kept rent.valid rent.best goods.valid goods.best goods.owners fares.valid fares.best g.view g.gives }

pub returns-clause-kept : goal.returns-clause-kept
returns-clause-kept c bytes view text gives = judged bytes view Yes (record { is_text = text; rows = rows_kept view gives }) gives
