-- How a command that reads an input ends on bytes of a caller that is not written in Rattle, and how that ending is handed out.
use Rattle.std.specs.Prelude.{ℕ, List, Result}
use Rattle.command_results.specs.Handing.{HandsOut}
use Rattle.command_results.specs.declared.stop.Stop.{Stop}
use Rattle.input_commands.specs.declared.command.InputCommand.{InputCommand}
use Rattle.input_commands.specs.Ends.{EndsOnBytes}

-- the command came to an ending on these bytes, and that ending is handed out
pub record Replies (command : InputCommand) (bytes : List ℕ) (status size : ℕ) (before after : List ℕ) : Type 0 where
  pub ending : Result (List ℕ) Stop
  pub ends : EndsOnBytes command bytes ending
  pub hands : HandsOut ending status size before after
