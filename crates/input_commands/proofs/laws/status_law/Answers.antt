use Rattle.cert_checker.specs.Judged.{PrintsBest}
use Rattle.winner_rules.specs.Judged.{PrintsFair}
use Rattle.input_commands.specs.declared.command.InputCommand.TheVariants.{Check, CheckWinner}
use Rattle.input_commands.proofs.ZeroStatus.{of_zero}
use Rattle.input_commands.proofs.laws.status_law.Goals as goal

pub returns-clause-best : goal.returns-clause-best
returns-clause-best c bytes size before after r = of_zero Check bytes r.ending (PrintsBest bytes) (c.yes_law.ensures.best bytes) r.hands.due r.ends

pub returns-clause-fair : goal.returns-clause-fair
returns-clause-fair c bytes size before after r = of_zero CheckWinner bytes r.ending (PrintsFair bytes) (c.yes_law.ensures.fair bytes) r.hands.due r.ends
