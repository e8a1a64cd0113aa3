-- An ending that is neither a fault nor a lack of memory is the one that the known bytes call for.
use Rattle.std.proofs.Common.{◌≡◌, ◌≢◌, ◌≤◌, ℕ, List, ◌++◌, None, Some, Result, Err, IfSome, length, arith, inl, inr, refl, ap, sym, ◌∙◌, append-nil, length-append, subst}
use Rattle.std.specs.Prelude.{Option}
use Rattle.std.specs.Io.KnownBytes.{Consumes, IsAtEnd}
use Rattle.command_results.specs.declared.stop.Stop.{Stop}
use Rattle.command_results.specs.declared.stop.Stop.TheVariants.{TooLong, ReadFault, NoMemory}
use Rattle.command_results.specs.ObjectUse.{IsTooLong, IsWhole, ObjectUse}
use Rattle.input_commands.specs.declared.command.InputCommand.{InputCommand}
use Rattle.input_commands.specs.Answers.{Answers}
use Rattle.input_commands.specs.Commands.{longest}
use Rattle.input_commands.specs.Ends.{CallsFor, EndsOn}

-- a fact of the known bytes from another
known_from : {P Q : List ℕ → Type 0} (known : Option (List ℕ)) → ((bytes : List ℕ) → P bytes → Q bytes) → IfSome known P → IfSome known Q
known_from None h p = tt
known_from (Some bytes) h p = h bytes p

-- what was given whole is what was known
whole_is : (before after : Option (List ℕ)) (bytes : List ℕ) → Consumes before after bytes → IsAtEnd after → IfSome before (λ known. known ≡ bytes)
whole_is None after bytes p q = tt
whole_is (Some x) None bytes p q = absurd p
whole_is (Some x) (Some y) bytes p q = p ∙ ap (λ l. bytes ++ l) q ∙ append-nil bytes

-- what was given is not longer than what was known
given_is : (before after : Option (List ℕ)) (bytes : List ℕ) → Consumes before after bytes → IfSome before (λ known. length bytes ≤ length known)
given_is None after bytes p = tt
given_is (Some x) None bytes p = absurd p
given_is (Some x) (Some y) bytes p = let e = ap length p in omega (arith, e, length-append bytes y)

-- bytes of which too many were taken are too many
of_long : (command : InputCommand) (input : ObjectUse) → IsTooLong (longest command) input → IfSome input.bytes_before (λ bytes. CallsFor command bytes (Err TooLong))
of_long command input h =
    known_from input.bytes_before (λ known low. (let long = h.1 in inl (omega (arith, long, low), refl)))
    (given_is input.bytes_before input.bytes_after h.0 h.2)

-- bytes that were taken whole are all that were there
of_whole : (command : InputCommand) (input : ObjectUse) (ending : Result (List ℕ) Stop) → (bytes : List ℕ) × IsWhole (longest command) input bytes × Answers command bytes ending
    → IfSome input.bytes_before (λ bytes. CallsFor command bytes ending)
of_whole command input ending h =
    known_from input.bytes_before (λ known is. subst (λ b. CallsFor command b ending) (sym is) (inr (h.1.0, h.2)))
    (whole_is input.bytes_before input.bytes_after h.0 h.1.1 h.1.2)

pub ends_called : (command : InputCommand) (input : ObjectUse) (ending : Result (List ℕ) Stop) → ending ≢ Err ReadFault → ending ≢ Err NoMemory → EndsOn command input ending
    → IfSome input.bytes_before (λ bytes. CallsFor command bytes ending)
ends_called command input (Err TooLong) read memory h = of_long command input h
ends_called command input (Err ReadFault) read memory h = absurd (read refl)
ends_called command input (Err NoMemory) read memory h = absurd (memory refl)
ends_called command input ending read memory h = of_whole command input ending h
