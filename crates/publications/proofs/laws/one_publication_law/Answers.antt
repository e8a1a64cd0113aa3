use Rattle.publications.proofs.OnePublication.{same_publication}
use Rattle.publications.proofs.laws.one_publication_law.Goals as goal

pub returns : goal.returns
returns c given asked told other ready a b =
    same_publication given ready (λ one made. c.case_law.ensures.valid given.facts given.bids one ready.facts ready.count ready.bids made)
    (λ end others is more. c.solve_law.ensures.one_end given.facts given.bids end others ready.facts ready.count ready.bids is more)
    c.division_text_law.ensures c.certificate_law.ensures.one c.report_law.ensures c.one_audit_law.ensures.text c.one_goods_audit_law.ensures.division c.winner_text_law.ensures asked told other a b
