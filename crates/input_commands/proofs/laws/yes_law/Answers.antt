use Rattle.input_commands.proofs.laws.yes_law.Goals as goal

pub returns-clause-best : goal.returns-clause-best
returns-clause-best c bytes text is = c.certificate_verdict_law.ensures.best bytes is.0

pub returns-clause-fair : goal.returns-clause-fair
returns-clause-fair c bytes text is = c.winner_verdict_law.ensures.fair bytes is.0
