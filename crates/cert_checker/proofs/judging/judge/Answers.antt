use Rattle.cert_checker.proofs.judging.judge.Goals as goal

pub returns-clause-judged : goal.returns-clause-judged
returns-clause-judged g c =
    let says = c.judge_text.ensures.judged in
    (says.0, says.1, (c.judge_text.result, c.read_answer.ensures.same, says.2))
