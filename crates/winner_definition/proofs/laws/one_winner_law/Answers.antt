use Rattle.winner_definition.proofs.OneWinner.{one_winner}
use Rattle.winner_definition.proofs.laws.one_winner_law.Goals as goal

pub returns : goal.returns
returns c = record { one = one_winner }
