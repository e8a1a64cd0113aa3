use Rattle.std.proofs.Common.{subst}
use Rattle.cert_reader.specs.Layout.{PairView}
use Rattle.rule_verdicts.specs.Verdicts.{IsVerdictOf}
use Rattle.winner_rules.specs.Rules.{rules_of_winner}
use Rattle.winner_rules.proofs.laws.winner_verdict_law.Goals as goal

pub returns-clause-said : goal.returns-clause-said
returns-clause-said c = λ bytes view verdict text judged.
    subst (λ (v : PairView). IsVerdictOf (rules_of_winner v) verdict) (c.pair_law.ensures.once bytes view judged.0 text judged.1) judged.2

pub returns-clause-one : goal.returns-clause-one
returns-clause-one c = λ bytes verdict other one two.
    c.winner_certificate_law.ensures.one one.0 verdict other one.2
    (subst (λ (v : PairView). IsVerdictOf (rules_of_winner v) other) (c.pair_law.ensures.once bytes one.0 two.0 one.1 two.1) two.2)

pub returns-clause-whole : goal.returns-clause-whole
returns-clause-whole c = λ bytes verdict line judged broken. c.pair_law.ensures.whole bytes judged.0 line judged.1 broken

pub returns-clause-fair : goal.returns-clause-fair
returns-clause-fair c = λ bytes certificate. (
  certificate.0,
  certificate.1,
  c.winner_certificate_law.ensures.valid certificate.0 certificate.2,
  c.winner_certificate_law.ensures.two certificate.0 certificate.2,
  c.winner_certificate_law.ensures.fair certificate.0 certificate.2,
)
