use Rattle.split_top.proofs.OneCommand.{one_command}
use Rattle.split_top.proofs.laws.command_law.Goals as goal

pub returns : goal.returns
returns c = one_command
