-- What the commands do with the file of a host: it is made, or opened and read out.
use Rattle.std.specs.Prelude.{◌≡◌, ◌≢◌, ◌↔◌, ℕ, ◌+◌, ◌<◌, ◌≤◌, List, [], ◌∷◌, ◌++◌, length, Result, Ok, Err, IfOk, IfErr}
use Rattle.split_reports.specs.DumpRows.{dump_text}
use Rattle.command_results.specs.declared.stop.Stop.{Stop}
use Rattle.command_results.specs.declared.stop.Stop.TheVariants as stop
use Rattle.gate_log.specs.Calls.{TellsFault, faults_after_call}
use Rattle.gate_log.specs.declared.fault.LogFault.{LogFault}
use Rattle.gate_log.specs.declared.fault.LogFault.TheVariants as fault
use Rattle.gate_log.specs.declared.limits.TheConstants.{EMPTY_SIZE, VERSION_GATE}
use Rattle.gate_log.specs.Records.{header}
use Rattle.host_journal.specs.Journal.{HasEvents, IsFirstFault}
use Rattle.host_journal.specs.Calls.{Opened}
use Rattle.host_journal.specs.declared.serving.Serving.{Serving}
use Rattle.host_journal.specs.States.{IsFile, State, host_in, ready_with}
use Rattle.split_base.specs.declared.disk.Disk.{Ghosts}
use Rattle.split_base.specs.Disk.{Each, LeavesOnly, Only, Rests, Tears}
use Rattle.split_base.specs.Faults.{HasRisen, counted}

-- one call failed, and no other: the count goes up by one, or is at its greatest value
abbrev pub FailedOnce : ℕ → ℕ → Type 0
FailedOnce before now = HasRisen before now × (now ≡ counted before)

-- no byte of the file changed at any moment, and nothing was written
pub record LeavesFile {D : Type 0} (d : Ghosts D) (disk after : D) : Type 0 where
  pub rests : Rests d.seen d.images d.moment d.left_since disk after
  pub no_write : d.moment after ≡ d.moment disk

-- the disk reveals its bytes as before, and they are the same
pub record IsSameFile {D : Type 0} (d : Ghosts D) (disk after : D) : Type 0 where
  pub tells : d.tells after
  pub same : d.seen after ≡ d.seen disk

-- The file was empty and is now a journal of version 2 with this secret and no events, of 50 bytes. A crash leaves this and nothing else.
pub record IsMade {D : Type 0} (d : Ghosts D) (disk after : D) (secret : List ℕ) : Type 0 where
  pub empty : length (d.seen disk) ≡ 0
  pub bytes : d.seen after ≡ header 1 secret ++ 0 ∷ []
  pub stands : HasEvents 2 secret [] (d.seen after)
  pub size : length (d.seen after) ≡ EMPTY_SIZE
  pub one : Only (d.seen after) (d.images after)
  pub calls : d.moment after ≡ d.moment disk + 2

-- A journal is made of an empty file, and nothing is written out; or the file isn't empty, which is reported with place 0; or a call of the disk failed. A file with bytes
-- stays as it is, whatever the ending.
pub data Makes {D : Type 0} (d : Ghosts D) (disk after : D) (secret : List ℕ) (ending : Result (List ℕ) Stop) : Type 0 where
  made : ending ≡ Ok [] → d.faults after ≡ d.faults disk → (d.tells disk → length (d.seen disk) ≡ 0) → (d.is_honest disk → IsMade d disk after secret)
      → Makes d disk after secret ending
  filled : ending ≡ Err (stop.BadJournal 0) → d.faults after ≡ d.faults disk → (d.tells disk → (0 < length (d.seen disk)) × IsSameFile d disk after)
      → (d.is_honest disk → (0 < length (d.seen disk)) × LeavesFile d disk after) → Makes d disk after secret ending
  failed : ending ≡ Err stop.StoreFault → FailedOnce (d.faults disk) (d.faults after) → (d.tells disk → 0 < length (d.seen disk) → IsSameFile d disk after)
      → (d.is_honest disk → 0 < length (d.seen disk) → LeavesFile d disk after) → Makes d disk after secret ending

-- why a command that could not make or open its file ends
abbrev pub stop_of : LogFault → Stop
stop_of fault.Disk = stop.StoreFault
stop_of (fault.NotALog place) = stop.BadJournal place
stop_of fault.NoMemory = stop.NoMemory

-- The file of a host is opened, or why it isn't: a call of the disk failed; the file isn't a journal, which is reported with the place of its first fault exactly when the disk
-- reveals bytes that have one; or there was no memory. No byte but the version gate may be torn, and after the last two no byte changed. What was a file of a state before is
-- one at each moment, and after.
pub record Opens {D : Type 0} (d : Ghosts D) (disk after : D) (answer : Result Serving LogFault) : Type 0 where
  pub opened : IfOk answer (Opened d disk after)
  pub count : d.faults disk ≤ d.faults after
  pub faults : d.faults after ≡ faults_after_call (d.faults disk) answer
  pub failed : answer ≡ Err fault.Disk → FailedOnce (d.faults disk) (d.faults after)
  pub honest : d.is_honest disk ↔ d.is_honest after
  pub place : d.tells disk → (place : ℕ) → answer ≡ Err (fault.NotALog place) → IsFirstFault place (d.seen disk)
  pub exactly : d.tells disk → (place : ℕ) → IsFirstFault place (d.seen disk) → TellsFault place answer
  pub kept : d.is_honest disk → IfErr answer (λ e. e ≢ fault.Disk → Rests d.seen d.images d.moment d.left_since disk after)
  pub writes : d.is_honest disk → LeavesOnly d.moment d.left_since disk after (Tears (d.images disk) VERSION_GATE 1)
  pub torn : d.is_honest disk → Each (d.images after) (Tears (d.images disk) VERSION_GATE 1)
  pub any_moment : d.is_honest disk → (s : State) → Each (d.images disk) (IsFile s) → LeavesOnly d.moment d.left_since disk after (IsFile s)
  pub left : d.is_honest disk → (s : State) → Each (d.images disk) (IsFile s) → Each (d.images after) (IsFile s)

-- the state of a file that was opened: the host is ready, with the file's secret and events
abbrev pub state_of : {D : Type 0} {d : Ghosts D} {disk after : D} {serving : Serving} → Opened d disk after serving → State
state_of opened = ready_with opened.secret opened.kept

-- The file is opened and the instances of its host are reported; or it isn't; or there was no memory for the rows.
pub data Dumps {D : Type 0} (d : Ghosts D) (disk after : D) (ending : Result (List ℕ) Stop) : Type 0 where
  dumped : (serving : Serving) (opens : Opens d disk after (Ok serving)) → ending ≡ Ok (dump_text (host_in (state_of opens.opened))) → Dumps d disk after ending
  no_rows : (serving : Serving) → Opens d disk after (Ok serving) → ending ≡ Err stop.NoMemory → Dumps d disk after ending
  not_opened : (why : LogFault) → Opens d disk after (Err why) → ending ≡ Err (stop_of why) → Dumps d disk after ending
