use Rattle.remote_check.proofs.LawLemmas.{one_answer, shows_yes, yes_shows}
use Rattle.remote_check.proofs.laws.fetched_law.Goals as goal

pub returns-clause-one : goal.returns-clause-one
returns-clause-one c =
    one_answer (record {
      one = c.certificate_verdict_law.ensures.one;
      whole = c.certificate_verdict_law.ensures.whole;
      broken = c.text_law.ensures.broken;
    })

pub returns-clause-best : goal.returns-clause-best
returns-clause-best c = yes_shows c.certificate_verdict_law.ensures.best

pub returns-clause-certificate : goal.returns-clause-certificate
returns-clause-certificate c = shows_yes
