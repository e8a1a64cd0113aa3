use Rattle.winner_rules.proofs.checking.check_winner.Goals as goal

pub returns-clause-judged : goal.returns-clause-judged
returns-clause-judged g c =
    let says = c.check_pair_text.ensures.judged in
    (says.0, says.1, (c.check_pair_text.result, c.read_answer.ensures.same, says.2))
