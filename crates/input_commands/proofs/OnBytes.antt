-- On bytes in memory, which are read without a fault, a command ends as they call for.
use Rattle.std.proofs.Common.{ℕ, List, Some, Result, Err, arith, inl, inr, subst}
use Rattle.command_results.specs.declared.stop.Stop.{Stop}
use Rattle.command_results.specs.declared.stop.Stop.TheVariants.{NoMemory}
use Rattle.command_results.specs.ObjectUse.{ObjectUse}
use Rattle.split_base.specs.Faults.{HasRisen}
use Rattle.input_commands.specs.declared.command.InputCommand.{InputCommand}
use Rattle.input_commands.specs.declared.command.InputCommand.TheVariants.{Check, CheckWinner}
use Rattle.input_commands.specs.Commands.{TakesMemory}
use Rattle.input_commands.specs.Ends.{CallsFor, EndsOn, EndsOnBytes}
use Rattle.input_commands.proofs.KnownBytes.{ends_called}

-- what a source of bytes in memory tells: its count of faults stays 0
abbrev pub from_memory : List ℕ → List ℕ → ObjectUse
from_memory bytes after = record { bytes_before = Some bytes; bytes_after = Some after; faults_before = 0; faults_after = 0 }

-- a count that stays 0 has not risen
not_risen : HasRisen 0 0 → ⊥
not_risen (inl low) = absurd (omega (arith, low))
not_risen (inr most) = absurd (omega (arith, most))

-- a command that takes no memory ends as the bytes call for
pub calls_for : (command : InputCommand) → (TakesMemory command → ⊥) → (bytes after : List ℕ) (ending : Result (List ℕ) Stop)
    → EndsOn command (from_memory bytes after) ending → CallsFor command bytes ending
calls_for command none bytes after ending ends =
    ends_called command (from_memory bytes after) ending
    (λ is. not_risen (subst (EndsOn command (from_memory bytes after)) is ends).0.0)
    (λ is. none (subst (EndsOn command (from_memory bytes after)) is ends).0) ends

-- what `check` is called for is how it ends
pub check_ends : (bytes : List ℕ) (ending : Result (List ℕ) Stop) → CallsFor Check bytes ending → EndsOnBytes Check bytes ending
check_ends bytes (Err NoMemory) (inl long) = let is = long.1 in absurd (cc is)
check_ends bytes (Err NoMemory) (inr short) = absurd short.1
check_ends bytes ending calls = calls

-- so of `checkwinner`
pub check_winner_ends : (bytes : List ℕ) (ending : Result (List ℕ) Stop) → CallsFor CheckWinner bytes ending → EndsOnBytes CheckWinner bytes ending
check_winner_ends bytes (Err NoMemory) (inl long) = let is = long.1 in absurd (cc is)
check_winner_ends bytes (Err NoMemory) (inr short) = absurd short.1
check_winner_ends bytes ending calls = calls
