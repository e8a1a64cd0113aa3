-- How a command ends on an input, and what its bytes call for.
use Rattle.std.specs.Prelude.{◌≡◌, ◌⊎◌, ◌<◌, ◌≤◌, ℕ, List, Result, Err, length}
use Rattle.command_results.specs.declared.stop.Stop.{Stop}
use Rattle.command_results.specs.declared.stop.Stop.TheVariants.{TooLong, ReadFault, NoMemory}
use Rattle.command_results.specs.ObjectUse.{HasNoFault, HasOneFault, IsPartRead, IsTooLong, IsWhole, ObjectUse}
use Rattle.input_commands.specs.declared.command.InputCommand.{InputCommand}
use Rattle.input_commands.specs.Answers.{Answers}
use Rattle.input_commands.specs.Commands.{TakesMemory, longest}

-- each ending and its cause: the input is too long; a read failed; memory ran out; or the command answers so to the bytes that were read whole
abbrev pub EndsOn : InputCommand → ObjectUse → Result (List ℕ) Stop → Type 0
EndsOn command input (Err TooLong) = IsTooLong (longest command) input
EndsOn command input (Err ReadFault) = HasOneFault input × IsPartRead (longest command) input
EndsOn command input (Err NoMemory) = TakesMemory command × IsPartRead (longest command) input × HasNoFault input
EndsOn command input ending = (bytes : List ℕ) × IsWhole (longest command) input bytes × Answers command bytes ending

-- the ending that these bytes call for, if no call fails and there is enough memory
abbrev pub CallsFor : InputCommand → List ℕ → Result (List ℕ) Stop → Type 0
CallsFor command bytes ending =
    ((longest command < length bytes) × (ending ≡ Err TooLong))
    ⊎ ((length bytes ≤ longest command) × Answers command bytes ending)

-- how a command ends on bytes in memory, which are read without a fault: as they call for; or, if it takes memory, because that ran out
abbrev pub EndsOnBytes : InputCommand → List ℕ → Result (List ℕ) Stop → Type 0
EndsOnBytes command bytes (Err NoMemory) = TakesMemory command
EndsOnBytes command bytes ending = CallsFor command bytes ending
