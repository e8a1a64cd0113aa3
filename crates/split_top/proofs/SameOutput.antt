-- Two runs on the same bytes come to one status and one text.
use Rattle.std.proofs.Common.{◌≡◌, ◌≢◌, ◌⊎◌, ℕ, List, Some, IfSome, Result, Err, inl, inr, sym, ap, ◌∙◌, ⊎_elim, subst}
use Rattle.command_results.specs.Endings.{owed}
use Rattle.command_results.specs.ObjectUse.{Ends, HasWritten, IsSound, ObjectUse}
use Rattle.command_results.specs.declared.stop.Stop.{Stop}
use Rattle.command_results.specs.declared.stop.Stop.TheVariants.{NoMemory, ReadFault}
use Rattle.input_commands.specs.declared.command.InputCommand.{InputCommand}
use Rattle.input_commands.specs.Commands.{AreAlike}
use Rattle.input_commands.specs.Ends.{CallsFor, EndsOn}
use Rattle.split_top.proofs.Finishing.{sorts}

-- where no write failed, the text was written with the status that goes with it
sound_end : (output : ObjectUse) (ending : Result (List ℕ) Stop) (status : ℕ) → IsSound output → Ends output (owed ending).text (owed ending).status status → (status ≡ (owed ending).status) × HasWritten output (owed ending).text
sound_end output ending status sound (inl w) = (w.0, w.1)
sound_end output ending status sound (inr w) = absurd (sound w.1.0)

module _
    (one : (command other : InputCommand) (bytes : List ℕ) (ending another : Result (List ℕ) Stop) → AreAlike command other → CallsFor command bytes ending → CallsFor other bytes another → ending ≡ another)
    (ends_known : (command : InputCommand) (input : ObjectUse) (ending : Result (List ℕ) Stop) → ending ≢ Err ReadFault → ending ≢ Err NoMemory → EndsOn command input ending
    → IfSome input.bytes_before (λ bytes. CallsFor command bytes ending))
  where
    -- what the bytes call for, or memory ran out
    called : (command : InputCommand) (bytes : List ℕ) (input : ObjectUse) (ending : Result (List ℕ) Stop) → input.bytes_before ≡ Some bytes → IsSound input → EndsOn command input ending
        → (ending ≡ Err NoMemory) ⊎ CallsFor command bytes ending
    called command bytes input ending known sound h = ⊎_elim
        (λ fault. absurd (sound fault.0))
        (λ rest. ⊎_elim (λ none. inl none.1) (λ is. inr (subst (λ o. IfSome o (λ all. CallsFor command all ending)) known (ends_known command input ending is.0 is.1 h))) rest)
        (sorts command input ending h)

    pub same_output : (command other : InputCommand) (bytes : List ℕ) (input output other_input other_output : ObjectUse) (ending another : Result (List ℕ) Stop) (status others : ℕ)
        → AreAlike command other → input.bytes_before ≡ Some bytes → other_input.bytes_before ≡ Some bytes
        → IsSound input → IsSound output → IsSound other_input → IsSound other_output
        → EndsOn command input ending → Ends output (owed ending).text (owed ending).status status
        → EndsOn other other_input another → Ends other_output (owed another).text (owed another).status others
        → (status ≡ 9) ⊎ (others ≡ 9) ⊎ ((status ≡ others) × ((text : List ℕ) × HasWritten output text × HasWritten other_output text))
    same_output command other bytes input output other_input other_output ending another status others alike known too read wrote read_too wrote_too h ends g closes =
        let first = sound_end output ending status wrote ends in
        let second = sound_end other_output another others wrote_too closes in ⊎_elim
        (λ none. inl (first.0 ∙ ap (λ (e : Result (List ℕ) Stop). (owed e).status) none))
        (λ calls. ⊎_elim
        (λ none. inr (inl (second.0 ∙ ap (λ (e : Result (List ℕ) Stop). (owed e).status) none)))
        (λ calls_too.
        let same = one command other bytes ending another alike calls calls_too in
        inr (inr (
          first.0 ∙ ap (λ (e : Result (List ℕ) Stop). (owed e).status) same ∙ sym second.0,
          ((owed ending).text, first.1, subst (λ (e : Result (List ℕ) Stop). HasWritten other_output (owed e).text) (sym same) second.1),
        )))
        (called other bytes other_input another too read_too g))
        (called command bytes input ending known read h)
