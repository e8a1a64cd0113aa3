-- What the commands read, and what they take for it.
use Rattle.std.specs.Prelude.{◌≡◌, ℕ}
use Rattle.cert_reader.specs.declared.limits.TheConstants.{MOST_BYTES}
use Rattle.input_commands.specs.declared.command.InputCommand.{InputCommand}
use Rattle.input_commands.specs.declared.command.InputCommand.TheVariants.{Solve, Report, Check, Weigh, Winner, CheckWinner}
use Rattle.input_commands.specs.declared.limits.TheConstants.{LONGEST_INPUT}

-- the most bytes that the command's input may have
abbrev pub longest : InputCommand → ℕ
longest (Solve workers) = LONGEST_INPUT
longest (Report workers) = LONGEST_INPUT
longest Check = MOST_BYTES
longest Weigh = LONGEST_INPUT
longest Winner = LONGEST_INPUT
longest CheckWinner = MOST_BYTES

-- the command takes memory: it keeps its input, and builds its text
abbrev pub TakesMemory : InputCommand → Type 0
TakesMemory (Solve workers) = Unit {0}
TakesMemory (Report workers) = Unit {0}
TakesMemory Check = ⊥
TakesMemory Weigh = Unit {0}
TakesMemory Winner = Unit {0}
TakesMemory CheckWinner = ⊥

-- the command with one worker, where it has workers
abbrev pub at_one : InputCommand → InputCommand
at_one (Solve workers) = Solve 1
at_one (Report workers) = Report 1
at_one Check = Check
at_one Weigh = Weigh
at_one Winner = Winner
at_one CheckWinner = CheckWinner

-- the two commands differ in the number of workers alone
abbrev pub AreAlike : InputCommand → InputCommand → Type 0
AreAlike command other = at_one command ≡ at_one other
