-- Where each command ends if no call fails.
use Rattle.std.proofs.Common.{◌≡◌, ◌≢◌, ◌⊎◌, ℕ, List, [], ◌∷◌, Contains, IfSome, Result, Ok, Err, length, arith, inl, inr, refl, sym, ◌∙◌, ap, ⊎_elim, subst}
use Rattle.std.specs.Prelude.{Option, None, Some}
use Rattle.command_results.specs.Endings.{owed}
use Rattle.command_results.specs.ObjectUse.{Ends, HasOneFault, IsSound, ObjectUse}
use Rattle.command_results.specs.declared.stop.Stop.{Stop}
use Rattle.command_results.specs.declared.stop.Stop.TheVariants.{Void, OverLimit, NotTwo, BrokenRule, BadWords, TooLong, BadCase, BrokenLine, BadReply, BadStatus, BadJournal, ReadFault, StoreFault, PortFault, NoMemory}
use Rattle.gate_log.specs.declared.fault.LogFault.{LogFault}
use Rattle.gate_log.specs.declared.fault.LogFault.TheVariants as fault
use Rattle.host_commands.specs.Files.{Dumps, Makes, Opens, state_of, stop_of}
use Rattle.host_commands.specs.Serves.{RunEnds, Serves, ServesOpened}
use Rattle.host_journal.specs.Journal.{HasEvents, HoldsSome, IsFirstFault}
use Rattle.host_journal.specs.States.{State}
use Rattle.input_commands.specs.declared.command.InputCommand.{InputCommand}
use Rattle.input_commands.specs.Commands.{AreAlike, TakesMemory}
use Rattle.input_commands.specs.Ends.{CallsFor, EndsOn}
use Rattle.serving.specs.Served.{LinkTells}
use Rattle.remote_check.specs.declared.ends.FetchEnd.{FetchEnd}
use Rattle.remote_check.specs.declared.ends.FetchEnd.TheVariants as fetch
use Rattle.remote_check.specs.declared.request.Words.{Words}
use Rattle.sealed_core.specs.Host.{EventView}
use Rattle.split_base.specs.declared.clock.Clock.{Ghosts as ClockTells}
use Rattle.split_base.specs.declared.dial.Dial.{Ghosts as DialTells}
use Rattle.split_base.specs.declared.disk.Disk.{Ghosts as DiskTells}
use Rattle.split_base.specs.declared.port.Port.{Ghosts as PortTells}
use Rattle.rule_verdicts.specs.declared.verdict.Verdict.{Verdict}
use Rattle.rule_verdicts.specs.declared.verdict.Verdict.TheVariants.{No, Yes}
use Rattle.split_top.specs.Audits.{Audits, faults_behind, fetch_ending}
use Rattle.split_top.specs.Causes.{Finishes, IsComplete, IsStill}
use Rattle.split_top.specs.Commands.{AreNoRow, Names}
use Rattle.split_top.specs.Outside.{Outside}
use Rattle.split_top.specs.Runs.{Came, Comes, Ran, OutsideTells, Tries}
use Rattle.split_top.specs.declared.command.Command.{Command}
use Rattle.split_top.specs.declared.command.Command.TheVariants.{Init, Serve, Dump, Trial, Audit, Read}
use Rattle.split_top.proofs.CauseLaws.{once_more}

-- an ending without a text
abbrev ends : Stop → Result (List ℕ) Stop
ends stop = Err stop

zero_of : Contains {X = ℕ} (0 ∷ 9 ∷ []) 0
zero_of = (0, omega arith, refl)

nine_of : Contains {X = ℕ} (0 ∷ 9 ∷ []) 9
nine_of = (1, omega arith, refl)

-- an empty file becomes a journal
make_finishes : {D : Type 0} (d : DiskTells D) (disk after : D) (secret : List ℕ) (ending : Result (List ℕ) Stop) → Makes d disk after secret ending
    → d.is_honest disk → IsStill (d.faults disk) (d.faults after) → length (d.seen disk) ≡ 0 → (owed ending).status ≡ 0
make_finishes d disk after secret ending (Makes.made is count none says) honest still empty = ap (λ (e : Result (List ℕ) Stop). (owed e).status) is
make_finishes d disk after secret ending (Makes.filled is count told says) honest still empty = let some = (says honest).0 in absurd (omega (arith, some, empty))
make_finishes d disk after secret ending (Makes.failed is once told says) honest still empty = absurd (still once.0)

status_is : (ending other : Result (List ℕ) Stop) → ending ≡ other → (owed ending).status ≡ (owed other).status
status_is ending other is = ap (λ (e : Result (List ℕ) Stop). (owed e).status) is

among : (ending other : Result (List ℕ) Stop) → ending ≡ other → Contains {X = ℕ} (0 ∷ 9 ∷ []) (owed other).status → Contains {X = ℕ} (0 ∷ 9 ∷ []) (owed ending).status
among ending other is there = subst (Contains {X = ℕ} (0 ∷ 9 ∷ [])) (sym (status_is ending other is)) there

module _ (no_fault : (version place : ℕ) (secret : List ℕ) (events : List EventView) (file : List ℕ) → HasEvents version secret events file → IsFirstFault place file → ⊥) where
  -- a journal is opened, except where memory runs out
  opens_finishes : {D : Type 0} (d : DiskTells D) (disk after : D) (why : LogFault) (ending : Result (List ℕ) Stop) → Opens d disk after (Err why) → ending ≡ Err (stop_of why)
      → d.tells disk → IsStill (d.faults disk) (d.faults after) → HoldsSome (d.seen disk) → Contains {X = ℕ} (0 ∷ 9 ∷ []) (owed ending).status
  opens_finishes d disk after fault.Disk ending opens is told still holds = absurd (still (opens.failed refl).0)
  opens_finishes d disk after (fault.NotALog place) ending opens is told still holds =
      absurd (no_fault holds.0 place holds.1 holds.2 (d.seen disk) holds.3 (opens.place told place refl))
  opens_finishes d disk after fault.NoMemory ending opens is told still holds = among ending (Err NoMemory) is nine_of

  dump_finishes : {D : Type 0} (d : DiskTells D) (disk after : D) (ending : Result (List ℕ) Stop) → Dumps d disk after ending
      → d.tells disk → IsStill (d.faults disk) (d.faults after) → HoldsSome (d.seen disk) → Contains {X = ℕ} (0 ∷ 9 ∷ []) (owed ending).status
  dump_finishes d disk after ending (Dumps.dumped serving opens is) told still holds = among ending (Ok _) is zero_of
  dump_finishes d disk after ending (Dumps.no_rows serving opens is) told still holds = among ending (Err NoMemory) is nine_of
  dump_finishes d disk after ending (Dumps.not_opened why opens is) told still holds = opens_finishes d disk after why ending opens is told still holds

  run_finishes : {P L : Type 0} (p : PortTells P L) (port after : P) (count number : ℕ) (ending : Result (List ℕ) Stop) → RunEnds p port after count number ending
      → IsStill (p.faults port) (p.faults after) → Contains {X = ℕ} (0 ∷ 9 ∷ []) (owed ending).status
  run_finishes p port after count number ending (RunEnds.told is same most few) still = among ending (Ok _) is zero_of
  run_finishes p port after count number ending (RunEnds.cut is once most) still = absurd (still once.0)

  module _ {D P L C : Type 0} (d : DiskTells D) (p : PortTells P L) (links : LinkTells L) (c : ClockTells C) (disk after : D) (port port_after : P) (clock clock_after : C) (port_number count : ℕ) (ending : Result (List ℕ) Stop) where
    opened_finishes : (w : D × State) → ServesOpened d p links c w after port port_after clock clock_after port_number count ending → IsStill (p.faults port) (p.faults port_after)
        → Contains {X = ℕ} (0 ∷ 9 ∷ []) (owed ending).status
    opened_finishes w (ServesOpened.deaf at asked none once is) still = absurd (still once.0)
    opened_finishes w (ServesOpened.ran heard listens number runs ends) still =
        run_finishes p heard port_after count number ending ends (subst (λ (n : ℕ). IsStill n (p.faults port_after)) (sym listens.still) still)

    serve_finishes : Serves d p links c disk after port port_after clock clock_after port_number count ending
        → d.tells disk → IsStill (d.faults disk) (d.faults after) → IsStill (p.faults port) (p.faults port_after) → HoldsSome (d.seen disk) → Contains {X = ℕ} (0 ∷ 9 ∷ []) (owed ending).status
    serve_finishes (Serves.no_routes same port_same asked is) told still port_still holds = among ending (Err NoMemory) is nine_of
    serve_finishes (Serves.not_opened why opens port_same asked is) told still port_still holds = opens_finishes d disk after why ending opens is told still holds
    serve_finishes (Serves.opened serving between opens once served) told still port_still holds = opened_finishes (between, state_of opens.opened) served port_still

trial_finishes : (number : ℕ) (ending : Result (List ℕ) Stop) → Tries number ending → Contains {X = ℕ} (0 ∷ 9 ∷ []) (owed ending).status
trial_finishes number (Ok text) h = zero_of
trial_finishes number (Err NoMemory) h = nine_of
trial_finishes number (Err (Void missing)) h = absurd h
trial_finishes number (Err (OverLimit limit)) h = absurd h
trial_finishes number (Err NotTwo) h = absurd h
trial_finishes number (Err (BrokenRule rule)) h = absurd h
trial_finishes number (Err BadWords) h = absurd h
trial_finishes number (Err TooLong) h = absurd h
trial_finishes number (Err (BadCase fault)) h = absurd h
trial_finishes number (Err (BrokenLine line)) h = absurd h
trial_finishes number (Err BadReply) h = absurd h
trial_finishes number (Err (BadStatus code)) h = absurd h
trial_finishes number (Err (BadJournal place)) h = absurd h
trial_finishes number (Err ReadFault) h = absurd h
trial_finishes number (Err StoreFault) h = absurd h
trial_finishes number (Err PortFault) h = absurd h

-- the status of what was fetched
fetch_finishes : (before after : ℕ) (answer : Result Verdict FetchEnd) → after ≡ faults_behind before answer → IsStill before after → Contains {X = ℕ} (0 ∷ 1 ∷ 3 ∷ []) (owed (fetch_ending answer)).status
fetch_finishes before after (Ok Yes) count still = (0, omega arith, refl)
fetch_finishes before after (Ok (No rule)) count still = (1, omega arith, refl)
fetch_finishes before after (Err fetch.Reply) count still = (2, omega arith, refl)
fetch_finishes before after (Err (fetch.Status code)) count still = (2, omega arith, refl)
fetch_finishes before after (Err (fetch.NotText line)) count still = (2, omega arith, refl)
fetch_finishes before after (Err fetch.TooLong) count still = (2, omega arith, refl)
fetch_finishes before after (Err fetch.LinkFault) count still = absurd (still (once_more before after count).0)

audit_finishes : {L X : Type 0} (x : DialTells X L) (tells : LinkTells L) (before after : X) (port : ℕ) (asked : Words) (ending : Result (List ℕ) Stop) → Audits x tells before after port asked ending
    → IsStill (x.faults before) (x.faults after) → Contains {X = ℕ} (0 ∷ 1 ∷ 3 ∷ []) (owed ending).status
audit_finishes x tells before after port asked ending (once, inl none) still = absurd (still (once_more (x.faults before) (x.faults after) none.fault).0)
audit_finishes x tells before after port asked ending (once, inr fetched) still =
    subst (Contains {X = ℕ} (0 ∷ 1 ∷ 3 ∷ [])) (sym (status_is ending (fetch_ending fetched.answer) fetched.is)) (fetch_finishes (x.faults before) (x.faults after) fetched.answer fetched.fault still)

-- an ending is a fault of a read, a lack of memory, or neither
abbrev IsUsual : Result (List ℕ) Stop → Type 0
IsUsual ending = (ending ≢ Err ReadFault) × (ending ≢ Err NoMemory)

abbrev Sorts : InputCommand → ObjectUse → Result (List ℕ) Stop → Type 0
Sorts reads input ending = HasOneFault input ⊎ (TakesMemory reads × (ending ≡ Err NoMemory)) ⊎ IsUsual ending

usual : (stop : Stop) → (ends stop ≡ ends ReadFault → ⊥) → (ends stop ≡ ends NoMemory → ⊥) → IsUsual (Err stop)
usual stop a b = (a, b)

pub sorts : (reads : InputCommand) (input : ObjectUse) (ending : Result (List ℕ) Stop) → EndsOn reads input ending → Sorts reads input ending
sorts reads input (Ok text) h = inr (inr ((λ e. cc e), (λ e. cc e)))
sorts reads input (Err ReadFault) h = inl h.0
sorts reads input (Err NoMemory) h = inr (inl (h.0, refl))
sorts reads input (Err (Void missing)) h = inr (inr (usual (Void missing) (λ e. cc e) (λ e. cc e)))
sorts reads input (Err (OverLimit limit)) h = inr (inr (usual (OverLimit limit) (λ e. cc e) (λ e. cc e)))
sorts reads input (Err NotTwo) h = inr (inr (usual NotTwo (λ e. cc e) (λ e. cc e)))
sorts reads input (Err (BrokenRule rule)) h = inr (inr (usual (BrokenRule rule) (λ e. cc e) (λ e. cc e)))
sorts reads input (Err BadWords) h = inr (inr (usual BadWords (λ e. cc e) (λ e. cc e)))
sorts reads input (Err TooLong) h = inr (inr (usual TooLong (λ e. cc e) (λ e. cc e)))
sorts reads input (Err (BadCase fault)) h = inr (inr (usual (BadCase fault) (λ e. cc e) (λ e. cc e)))
sorts reads input (Err (BrokenLine line)) h = inr (inr (usual (BrokenLine line) (λ e. cc e) (λ e. cc e)))
sorts reads input (Err BadReply) h = inr (inr (usual BadReply (λ e. cc e) (λ e. cc e)))
sorts reads input (Err (BadStatus code)) h = inr (inr (usual (BadStatus code) (λ e. cc e) (λ e. cc e)))
sorts reads input (Err (BadJournal place)) h = inr (inr (usual (BadJournal place) (λ e. cc e) (λ e. cc e)))
sorts reads input (Err StoreFault) h = inr (inr (usual StoreFault (λ e. cc e) (λ e. cc e)))
sorts reads input (Err PortFault) h = inr (inr (usual PortFault (λ e. cc e) (λ e. cc e)))

-- a fact of whatever bytes are known
known_all : {P : List ℕ → Type 0} (known : Option (List ℕ)) → ((bytes : List ℕ) → P bytes) → IfSome known P
known_all None h = tt
known_all (Some bytes) h = h bytes

-- a fact of the known bytes from another
known_from : {P Q : List ℕ → Type 0} (known : Option (List ℕ)) → ((bytes : List ℕ) → P bytes → Q bytes) → IfSome known P → IfSome known Q
known_from None h p = tt
known_from (Some bytes) h p = h bytes p

module _
    (no_fault : (version place : ℕ) (secret : List ℕ) (events : List EventView) (file : List ℕ) → HasEvents version secret events file → IsFirstFault place file → ⊥)
    (one : (command other : InputCommand) (bytes : List ℕ) (ending another : Result (List ℕ) Stop) → AreAlike command other → CallsFor command bytes ending → CallsFor other bytes another → ending ≡ another)
    (ends_known : (command : InputCommand) (input : ObjectUse) (ending : Result (List ℕ) Stop) → ending ≢ Err ReadFault → ending ≢ Err NoMemory → EndsOn command input ending
    → IfSome input.bytes_before (λ bytes. CallsFor command bytes ending))
  where
    -- the status of a command that reads an input is that for which its bytes call
    abbrev CallsStatus : InputCommand → ℕ → List ℕ → Type 0
    CallsStatus reads status bytes = (ending : Result (List ℕ) Stop) → CallsFor reads bytes ending → (status ≡ (owed ending).status) ⊎ (TakesMemory reads × (status ≡ 9))

    read_finishes : (reads : InputCommand) (input : ObjectUse) (ending : Result (List ℕ) Stop) → EndsOn reads input ending → IsSound input → Sorts reads input ending
        → IfSome input.bytes_before (CallsStatus reads (owed ending).status)
    read_finishes reads input ending h sound (inl fault) = absurd (sound fault.0)
    read_finishes reads input ending h sound (inr (inl none)) = known_all input.bytes_before (λ bytes other calls. inr (none.0, status_is ending (Err NoMemory) none.1))
    read_finishes reads input ending h sound (inr (inr is)) =
        known_from input.bytes_before (λ bytes calls other too. inl (status_is ending other (one reads reads bytes ending other refl calls too))) (ends_known reads input ending is.0 is.1 h)

    module _ {D P L C X M : Type 0} (tells : OutsideTells D P L C X M) (outside : Outside D P C X) (ending : Result (List ℕ) Stop) where
      finishes : (command : Command) → Came tells outside command ending → Finishes tells outside command (owed ending).status
      finishes (Init secret) came = λ honest still empty. make_finishes tells.disk outside.disk outside.disk_now secret ending came.1 honest still empty
      finishes (Serve port workers count) came = λ told still port_still holds.
          serve_finishes no_fault tells.disk tells.port tells.links tells.clock outside.disk outside.disk_now outside.port outside.port_now outside.clock outside.clock_now port count ending came.1 told still port_still holds
      finishes Dump came = λ told still holds. dump_finishes no_fault tells.disk outside.disk outside.disk_now ending came.1 told still holds
      finishes (Trial number workers) came = trial_finishes number ending came.1
      finishes (Audit port asked) came = λ still. audit_finishes tells.dialer tells.dialled outside.dialer outside.dialer_now port asked ending came.1 still
      finishes (Read reads) came = λ sound. read_finishes reads outside.input ending came.1 sound (sorts reads outside.input ending came.1)

      -- where no write failed, the status is the one that goes with the ending
      no_failure : (status : ℕ) → IsSound outside.output → Ends outside.output (owed ending).text (owed ending).status status → status ≡ (owed ending).status
      no_failure status sound ends = ⊎_elim (λ w. w.0) (λ w. absurd (sound w.1.0)) ends

      complete : (words : List (List ℕ)) (status : ℕ) → Comes tells outside words ending → status ≡ (owed ending).status
          → (AreNoRow words × (status ≡ 2)) ⊎ ((command : Command) × Names words command × Finishes tells outside command status)
      complete words status (inl none) is = inl (none.0, is ∙ status_is ending (Err BadWords) none.2)
      complete words status (inr row) is = inr (row.0, row.1, subst (Finishes tells outside row.0) (sym is) (finishes row.0 row.2))

    -- each ending comes wherever it is called for
    pub is_complete : {D P L C X M : Type 0} (tells : OutsideTells D P L C X M) (outside : Outside D P C X) (words : List (List ℕ)) (status : ℕ) → Ran tells outside words status → IsComplete tells outside words status
    is_complete tells outside words status (ending, comes, ends) = λ sound. complete tells outside ending words status comes (no_failure tells outside ending status sound ends)
