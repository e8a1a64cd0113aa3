-- What holds of the words of `serve`.
use Rattle.std.proofs.Common.{◌≡◌, ◌⊎◌, ℕ, List, [], ◌∷◌, Contains, Result, Err, inl, inr, refl, sym, ⊎_elim, subst, arith}
use Rattle.command_results.specs.Endings.{owed}
use Rattle.command_results.specs.ObjectUse.{Ends, HasWritten}
use Rattle.command_results.specs.declared.stop.Stop.{Stop}
use Rattle.command_results.specs.declared.stop.Stop.TheVariants.{PortFault}
use Rattle.gate_log.specs.declared.fault.LogFault.{LogFault}
use Rattle.gate_log.specs.declared.fault.LogFault.TheVariants as fault
use Rattle.host_commands.specs.Files.{stop_of}
use Rattle.host_commands.specs.Headline.{HasHeadline, HasNoRun}
use Rattle.host_commands.specs.Serves.{IsOpened, IsUnopened, RunEnds, Serves, served_line}
use Rattle.split_top.specs.Causes.{IsServed}
use Rattle.split_top.specs.Commands.{Names}
use Rattle.split_top.specs.Outside.{Outside}
use Rattle.split_top.specs.Runs.{Came, Ran, OutsideTells}
use Rattle.split_top.specs.declared.command.Command.{Command}
use Rattle.split_top.specs.declared.command.Command.TheVariants.{Serve}
use Rattle.split_top.proofs.OneCommand.{one_command}

-- the status where a file was not opened
status_of : (why : LogFault) → Contains {X = ℕ} (4 ∷ 7 ∷ 9 ∷ []) (owed (Err (stop_of why))).status
status_of fault.Disk = (1, omega arith, refl)
status_of (fault.NotALog place) = (0, omega arith, refl)
status_of fault.NoMemory = (2, omega arith, refl)

unopened_status : (ending : Result (List ℕ) Stop) → IsUnopened ending → Contains {X = ℕ} (4 ∷ 7 ∷ 9 ∷ []) (owed ending).status
unopened_status ending (why, is) = subst (λ (e : Result (List ℕ) Stop). Contains {X = ℕ} (4 ∷ 7 ∷ 9 ∷ []) (owed e).status) (sym is) (status_of why)

module _ {D P L C X M : Type 0} (tells : OutsideTells D P L C X M) (outside : Outside D P C X) where
  abbrev ServesSo : ℕ → ℕ → Result (List ℕ) Stop → Type 0
  ServesSo port count ending =
      Serves tells.disk tells.port tells.links tells.clock outside.disk outside.disk_now outside.port outside.port_now outside.clock outside.clock_now port count ending

  abbrev HasRun : ℕ → Type 0
  HasRun number = HasHeadline tells.disk tells.port tells.links tells.clock outside.disk outside.disk_now outside.port outside.port_now outside.clock outside.clock_now number

  abbrev EndsBy : ℕ → Result (List ℕ) Stop → Type 0
  EndsBy status ending = Ends outside.output (owed ending).text (owed ending).status status

  -- with status 0 the number was written
  told_number : (text : List ℕ) (status : ℕ) → Ends outside.output text 0 status → status ≡ 0 → HasWritten outside.output text
  told_number text status (inl w) zero = w.1
  told_number text status (inr w) zero = let six = w.0 in absurd (omega (arith, six, zero))

  no_zero : (text : List ℕ) (status : ℕ) → Ends outside.output text 8 status → status ≡ 0 → ⊥
  no_zero text status (inl w) zero = let eight = w.0 in omega (arith, eight, zero)
  no_zero text status (inr w) zero = let six = w.0 in omega (arith, six, zero)

  abbrev IsOpenedSo : ℕ → ℕ → ℕ → Result (List ℕ) Stop → Type 0
  IsOpenedSo port count number ending = IsOpened tells.port port outside.port outside.port_now count number ending

  no_number : (number : ℕ) (ending : Result (List ℕ) Stop) (status : ℕ) → ending ≡ Err PortFault → EndsBy status ending → status ≡ 0 → HasWritten outside.output (served_line number)
  no_number number ending status is ends zero = absurd (no_zero (owed (Err PortFault)).text status (subst (EndsBy status) is ends) zero)

  wrote_number : (port count number : ℕ) (ending : Result (List ℕ) Stop) (status : ℕ) → IsOpenedSo port count number ending → EndsBy status ending → status ≡ 0 → HasWritten outside.output (served_line number)
  wrote_number port count number ending status (IsOpened.ran heard listens (RunEnds.told is same most few)) ends zero = told_number (served_line number) status (subst (EndsBy status) is ends) zero
  wrote_number port count number ending status (IsOpened.ran heard listens (RunEnds.cut is once most)) ends zero = no_number number ending status is ends zero
  wrote_number port count number ending status (IsOpened.deaf is once none zero_links) ends zero = no_number number ending status is ends zero

  module _
      (any : (port count : ℕ) (ending : Result (List ℕ) Stop) → ServesSo port count ending
      → (IsUnopened ending × HasNoRun outside.port outside.port_now outside.clock outside.clock_now) ⊎ ((number : ℕ) × IsOpenedSo port count number ending × HasRun number))
    where
      -- of the words of `serve` the file was not opened, or the headline holds
      pub is_served : (words : List (List ℕ)) (port workers count status : ℕ) → Names words (Serve port workers count) → Ran tells outside words status → IsServed tells outside port count status
      is_served words port workers count status row (ending, inl none, ends) = absurd (none.0 (Serve port workers count) row)
      is_served words port workers count status row (ending, inr (command, other, came), ends) =
          let so : Came tells outside (Serve port workers count) ending =
          subst (λ (c : Command). Came tells outside c ending) (one_command words command (Serve port workers count) other row) came in
          record {
            ending = ending;
            serves = so.1;
            wrote = ends;
            holds = ⊎_elim (λ none. inl (none.0, unopened_status ending none.0, none.1))
                (λ all. inr (all.0, all.1, all.2, λ zero. wrote_number port count all.0 ending status all.1 ends zero)) (any port count ending so.1);
          }
