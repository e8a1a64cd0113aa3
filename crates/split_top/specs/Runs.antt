-- What a run of the program comes to.
use Rattle.std.specs.Prelude.{◌≡◌, ◌⊎◌, ℕ, List, Result, Ok, Err}
use Rattle.command_results.specs.Endings.{owed}
use Rattle.command_results.specs.ObjectUse.{Ends}
use Rattle.command_results.specs.declared.stop.Stop.{Stop}
use Rattle.command_results.specs.declared.stop.Stop.TheVariants.{BadWords, NoMemory}
use Rattle.host_commands.specs.Files.{Dumps, Makes}
use Rattle.host_commands.specs.Serves.{Serves}
use Rattle.input_commands.specs.Ends.{EndsOn}
use Rattle.serving.specs.Served.{LinkTells}
use Rattle.split_base.specs.declared.clock.Clock.{Ghosts as ClockTells}
use Rattle.split_base.specs.declared.dial.Dial.{Ghosts as DialTells}
use Rattle.split_base.specs.declared.disk.Disk.{Ghosts as DiskTells}
use Rattle.split_base.specs.declared.port.Port.{Ghosts as PortTells}
use Rattle.split_top.specs.Audits.{Audits}
use Rattle.split_top.specs.Commands.{AreNoRow, Names}
use Rattle.split_top.specs.Outside.{Outside, UsesDialer, UsesDisk, UsesHost, UsesInput, UsesNothing}
use Rattle.split_top.specs.declared.command.Command.{Command}
use Rattle.split_top.specs.declared.command.Command.TheVariants.{Init, Serve, Dump, Trial, Audit, Read}
use Rattle.trial_runs.specs.Texts.{IsTrialText}

-- what the objects of the outside reveal, each by its trait: the disk, the port with its links, the clock, and the dialer with its links
pub record OutsideTells (D P L C X M : Type 0) : Type 1 where
  pub disk : DiskTells D
  pub port : PortTells P L
  pub links : LinkTells L
  pub clock : ClockTells C
  pub dialer : DialTells X M
  pub dialled : LinkTells M

-- what they are: by the ghosts of their traits
abbrev pub tells_by : {D P L C X M : Type 0} → DiskTells D → PortTells P L → LinkTells L → ClockTells C → DialTells X M → LinkTells M → OutsideTells D P L C X M
tells_by disk port links clock dialer dialled = record { disk = disk; port = port; links = links; clock = clock; dialer = dialer; dialled = dialled }

-- the trial of a number: its text, or that memory ran out
abbrev pub Tries : ℕ → Result (List ℕ) Stop → Type 0
Tries number (Ok text) = IsTrialText number text
Tries number (Err NoMemory) = Unit {0}
Tries number (Err other) = ⊥

-- each command with what it does: the objects that it uses, and how it ends
abbrev pub Came : {D P L C X M : Type 0} → OutsideTells D P L C X M → Outside D P C X → Command → Result (List ℕ) Stop → Type 0
Came tells outside (Init secret) ending = UsesDisk outside × Makes tells.disk outside.disk outside.disk_now secret ending
Came tells outside (Serve port workers count) ending =
    UsesHost outside × Serves tells.disk tells.port tells.links tells.clock outside.disk outside.disk_now outside.port outside.port_now outside.clock outside.clock_now port count ending
Came tells outside Dump ending = UsesDisk outside × Dumps tells.disk outside.disk outside.disk_now ending
Came tells outside (Trial number workers) ending = UsesNothing outside × Tries number ending
Came tells outside (Audit port asked) ending = UsesDialer outside × Audits tells.dialer tells.dialled outside.dialer outside.dialer_now port asked ending
Came tells outside (Read command) ending = UsesInput outside × EndsOn command outside.input ending

-- the ending: the words aren't a row of the command table, and nothing was used; or that of their command
abbrev pub Comes : {D P L C X M : Type 0} → OutsideTells D P L C X M → Outside D P C X → List (List ℕ) → Result (List ℕ) Stop → Type 0
Comes tells outside words ending =
    (AreNoRow words × UsesNothing outside × (ending ≡ Err BadWords))
    ⊎ ((command : Command) × Names words command × Came tells outside command ending)

-- it came to one ending, and wrote that ending's text with its status; or one write failed, with some byte of the text missing, and the status is 6
abbrev pub Ran : {D P L C X M : Type 0} → OutsideTells D P L C X M → Outside D P C X → List (List ℕ) → ℕ → Type 0
Ran tells outside words status = (ending : Result (List ℕ) Stop) × Comes tells outside words ending × Ends outside.output (owed ending).text (owed ending).status status
