-- What each status shows, and where it must come. All of it follows from the ending and the text that goes with it.
use Rattle.std.specs.Prelude.{◌≡◌, ◌≢◌, ◌⊎◌, ℕ, List, [], ◌∷◌, Contains, Result, Err, IfSome, length, get_or}
use Rattle.command_results.specs.Endings.{owed}
use Rattle.command_results.specs.ObjectUse.{Ends, HasNoFault, HasOneFault, HasWritten, IsSound}
use Rattle.command_results.specs.declared.stop.Stop.{Stop}
use Rattle.command_results.specs.declared.stop.Stop.TheVariants.{BadJournal}
use Rattle.host_commands.specs.Files.{FailedOnce}
use Rattle.host_commands.specs.Headline.{HasHeadline, HasNoRun}
use Rattle.host_commands.specs.Serves.{IsOpened, IsUnopened, Serves, served_line}
use Rattle.host_journal.specs.Journal.{HoldsSome}
use Rattle.input_commands.specs.Commands.{TakesMemory as ReadingTakesMemory}
use Rattle.input_commands.specs.Ends.{CallsFor}
use Rattle.split_base.specs.Faults.{HasRisen}
use Rattle.split_top.specs.Commands.{AreNoRow, Names}
use Rattle.split_top.specs.Outside.{Outside, UsesNothing}
use Rattle.split_top.specs.Runs.{Came, Comes, OutsideTells, Ran}
use Rattle.split_top.specs.declared.command.Command.{Command}
use Rattle.split_top.specs.declared.command.Command.TheVariants.{Init, Serve, Dump, Trial, Audit, Read}

-- the command may lack memory
abbrev pub TakesMemory : Command → Type 0
TakesMemory (Init secret) = ⊥
TakesMemory (Serve port workers count) = Unit {0}
TakesMemory Dump = Unit {0}
TakesMemory (Trial number workers) = Unit {0}
TakesMemory (Audit port asked) = ⊥
TakesMemory (Read reads) = ReadingTakesMemory reads

-- an ending of this status came: its cause holds, its text was written, and no write failed
abbrev pub Ended : {D P L C X M : Type 0} → OutsideTells D P L C X M → Outside D P C X → List (List ℕ) → ℕ → Type 0
Ended tells outside words status =
    (ending : Result (List ℕ) Stop) × ((owed ending).status ≡ status) × Comes tells outside words ending × HasWritten outside.output (owed ending).text × HasNoFault outside.output

-- what licenses each status, from 0: an ending that has it came, and which count rose, or that one write failed
abbrev pub licences : {D P L C X M : Type 0} → OutsideTells D P L C X M → Outside D P C X → List (List ℕ) → List (Type 0)
licences tells outside words =
    Ended tells outside words 0
    ∷ Ended tells outside words 1
    ∷ (Ended tells outside words 2 × AreNoRow words × UsesNothing outside)
    ∷ Ended tells outside words 3
    ∷ (Ended tells outside words 4 × ((command : Command) × Names words command × ((place : ℕ) × Came tells outside command (Err (BadJournal place)))))
    ∷ (Ended tells outside words 5 × HasOneFault outside.input)
    ∷ HasOneFault outside.output
    ∷ (Ended tells outside words 7 × FailedOnce (tells.disk.faults outside.disk) (tells.disk.faults outside.disk_now))
    ∷ (Ended tells outside words 8
    × (FailedOnce (tells.port.faults outside.port) (tells.port.faults outside.port_now) ⊎ FailedOnce (tells.dialer.faults outside.dialer) (tells.dialer.faults outside.dialer_now)))
    ∷ (Ended tells outside words 9 × ((command : Command) × Names words command × TakesMemory command))
    ∷ []

-- each status comes only by its cause and with its text, and no other status is answered
abbrev pub HasCauses : {D P L C X M : Type 0} → OutsideTells D P L C X M → Outside D P C X → List (List ℕ) → ℕ → Type 0
HasCauses tells outside words status = get_or (licences tells outside words) status ⊥

-- no call of an object of this count failed
abbrev pub IsStill : ℕ → ℕ → Type 0
IsStill before after = HasRisen before after → ⊥

-- if no call of an object that the command uses failed, it ends as its input or its file calls for, or for lack of memory if it takes any
abbrev pub Finishes : {D P L C X M : Type 0} → OutsideTells D P L C X M → Outside D P C X → Command → ℕ → Type 0
Finishes tells outside (Init secret) status =
    tells.disk.is_honest outside.disk → IsStill (tells.disk.faults outside.disk) (tells.disk.faults outside.disk_now) → length (tells.disk.seen outside.disk) ≡ 0 → status ≡ 0
Finishes tells outside (Serve port workers count) status =
    tells.disk.tells outside.disk → IsStill (tells.disk.faults outside.disk) (tells.disk.faults outside.disk_now)
    → IsStill (tells.port.faults outside.port) (tells.port.faults outside.port_now) → HoldsSome (tells.disk.seen outside.disk) → Contains (0 ∷ 9 ∷ []) status
Finishes tells outside Dump status =
    tells.disk.tells outside.disk → IsStill (tells.disk.faults outside.disk) (tells.disk.faults outside.disk_now) → HoldsSome (tells.disk.seen outside.disk) → Contains (0 ∷ 9 ∷ []) status
Finishes tells outside (Trial number workers) status = Contains (0 ∷ 9 ∷ []) status
Finishes tells outside (Audit port asked) status = IsStill (tells.dialer.faults outside.dialer) (tells.dialer.faults outside.dialer_now) → Contains (0 ∷ 1 ∷ 3 ∷ []) status
Finishes tells outside (Read reads) status =
    IsSound outside.input
    → IfSome outside.input.bytes_before (λ bytes. (ending : Result (List ℕ) Stop) → CallsFor reads bytes ending → (status ≡ (owed ending).status) ⊎ (ReadingTakesMemory reads × (status ≡ 9)))

-- if no write failed, the status is 2 exactly when the words are not a row, and otherwise the one that their command finishes with
abbrev pub IsComplete : {D P L C X M : Type 0} → OutsideTells D P L C X M → Outside D P C X → List (List ℕ) → ℕ → Type 0
IsComplete tells outside words status =
    IsSound outside.output → (AreNoRow words × (status ≡ 2)) ⊎ ((command : Command) × Names words command × Finishes tells outside command status)

-- What holds of the words of `serve`, for each ending whose line was due. If the file was not opened, that line has status 4, 7 or 9, and neither the
-- port nor the clock was called. Otherwise the headline holds of this many links, at most COUNT, as `IsOpened` says: the line has status 0 and tells
-- their number, and no call of the port failed; or it has status 8, because one failed. If that was the call to listen, there are no links.
pub record IsServed {D P L C X M : Type 0} (tells : OutsideTells D P L C X M) (outside : Outside D P C X) (port count status : ℕ) : Type 0 where
  pub ending : Result (List ℕ) Stop
  pub serves : Serves tells.disk tells.port tells.links tells.clock outside.disk outside.disk_now outside.port outside.port_now outside.clock outside.clock_now port count ending
  pub wrote : Ends outside.output (owed ending).text (owed ending).status status
  pub holds : (IsUnopened ending × Contains (4 ∷ 7 ∷ 9 ∷ []) (owed ending).status × HasNoRun outside.port outside.port_now outside.clock outside.clock_now)
      ⊎ ((number : ℕ) × IsOpened tells.port port outside.port outside.port_now count number ending
      × HasHeadline tells.disk tells.port tells.links tells.clock outside.disk outside.disk_now outside.port outside.port_now outside.clock outside.clock_now number
      × (status ≡ 0 → HasWritten outside.output (served_line number)))

-- What holds of each run of the program.
pub record Holds {D P L C X M : Type 0} (tells : OutsideTells D P L C X M) (outside : Outside D P C X) (words : List (List ℕ)) (status : ℕ) : Type 0 where
  -- the command of the words came to one of its endings, and wrote that ending's text with its status
  pub ran : Ran tells outside words status
  -- the same, cause by cause: each status only by its cause, and each cause with its status
  pub causes : HasCauses tells outside words status
  pub complete : IsComplete tells outside words status
  -- a command that takes no memory never ends for lack of it
  pub memory : (command : Command) → Names words command → (TakesMemory command → ⊥) → status ≢ 9
  -- The headline, of the words of `serve`: for every list of connections, bytes and clock moments the host writes the bytes of one machine of
  -- accepted commands; each published division is best for its rule among all, least among equals, and the same for every number of workers;
  -- its printed certificate passes the checker; and a crash at any moment leaves a prefix of the commands that holds each acknowledged one.
  pub headline : (port workers count : ℕ) → Names words (Serve port workers count) → IsServed tells outside port count status
