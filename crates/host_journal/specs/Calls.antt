-- What each call of a host on its journal leads to.
use Rattle.std.specs.Prelude.{◌≡◌, ◌⊎◌, ℕ, ◌+◌, List, [], ◌∷◌, ◌++◌, Some, Result, Err, IsOk}
use Rattle.split_base.specs.declared.disk.Disk.{Ghosts}
use Rattle.split_base.specs.Disk.{Each, Only, Tears}
use Rattle.split_base.specs.Faults.{counted}
use Rattle.gate_log.specs.declared.fault.LogFault.{LogFault}
use Rattle.gate_log.specs.declared.fault.LogFault.TheVariants as fault
use Rattle.gate_log.specs.declared.limits.TheConstants.{VERSION_GATE}
use Rattle.host_journal.specs.Journal.{HasEvents, HasRaised, HoldsEvents, IsFirstFault, LeftAlone}
use Rattle.sealed_core.specs.Host.{EventView}
use Rattle.host_journal.specs.States.{HasState, Passes, State, ready_with, waits_with}
use Rattle.host_journal.specs.declared.serving.Serving.{Serving}

-- the serving is in a new state, this holds of it, and the disk went on from the state before to it
pub record ReachesState {D : Type 0} (d : Ghosts D) (serving : Serving) (disk after : D) (s : State) (case : State → Type 0) : Type 0 where
  pub new : State
  pub stands : HasState d serving after new
  pub passes : Passes d disk s after new
  pub is : case new

-- an append was done by four calls of the disk, and each image then holds the events
pub record IsAppended {D : Type 0} (d : Ghosts D) (disk after : D) (secret : List ℕ) (events : List EventView) : Type 0 where
  pub calls : d.moment after ≡ d.moment disk + 4
  pub holds : Each (d.images after) (HoldsEvents secret events)

-- An event was kept; or a call of the disk failed, and the host waits with the event.
pub data Keeps {D T : Type 0} (d : Ghosts D) (disk after : D) (event : EventView) (s new : State) (result : Result T LogFault) : Type 0 where
  kept : IsOk result → d.faults after ≡ d.faults disk → (d.is_honest disk → IsAppended d disk after s.secret (s.kept ++ event ∷ []))
      → new ≡ ready_with s.secret (s.kept ++ event ∷ []) → Keeps d disk after event s new result
  failed : result ≡ Err fault.Disk → d.faults after ≡ counted (d.faults disk) → new ≡ waits_with s event → Keeps d disk after event s new result

-- A file that was opened: what a read gave held just these events, and now holds them in version 2, which is the one image.
-- It was left alone, or raised from version 1.
pub record IsFound {D : Type 0} (d : Ghosts D) (disk after : D) (secret : List ℕ) (events : List EventView) : Type 0 where
  pub before : HoldsEvents secret events (d.seen disk)
  pub now : HasEvents 2 secret events (d.seen after)
  pub one : Only (d.seen after) (d.images after)
  pub calls : LeftAlone d.seen d.moment disk after ⊎ HasRaised d.seen d.moment disk after

-- the file of a host that waits with an event was opened: it held the events kept before, with the one more or without it
pub record HoldsWithOrWithout {D : Type 0} (d : Ghosts D) (disk after : D) (s : State) (event : EventView) (secret : List ℕ) (kept : List EventView) : Type 0 where
  pub secret_stays : secret ≡ s.secret
  pub either : (kept ≡ s.kept) ⊎ (kept ≡ s.kept ++ event ∷ [])
  pub file : IsFound d disk after secret kept

-- what is known of the file when a host that waits was opened as it: if the disk reveals its bytes, a read gave just these events; and if it is
-- honest, they are those kept before, with the one more or without it
pub record IsOpenedAs {D : Type 0} (d : Ghosts D) (disk after : D) (s : State) (event : EventView) (secret : List ℕ) (kept : List EventView) : Type 0 where
  pub read : d.tells disk → HoldsEvents secret kept (d.seen disk)
  pub settled : d.is_honest disk → HoldsWithOrWithout d disk after s event secret kept

-- The file of a host that waits was opened, and the host is that of its events. Or a call of the disk failed, and no byte but the version gate may
-- be torn. Or the file isn't a journal, which is never so on an honest disk, and the place of its first fault is given.
pub data Reopens {D T : Type 0} (d : Ghosts D) (disk after : D) (s new : State) (result : Result T LogFault) : Type 0 where
  opened : (event : EventView) (secret : List ℕ) (kept : List EventView) → s.waiting ≡ Some event → IsOk result → d.faults after ≡ d.faults disk
      → IsOpenedAs d disk after s event secret kept → new ≡ ready_with secret kept → Reopens d disk after s new result
  failed : (event : EventView) → s.waiting ≡ Some event → result ≡ Err fault.Disk → d.faults after ≡ counted (d.faults disk)
      → (d.is_honest disk → Each (d.images after) (Tears (d.images disk) VERSION_GATE 1)) → new ≡ s → Reopens d disk after s new result
  damaged : (event : EventView) (place : ℕ) → s.waiting ≡ Some event → result ≡ Err (fault.NotALog place) → d.faults after ≡ d.faults disk
      → (d.tells disk → IsFirstFault place (d.seen disk)) → (d.is_honest disk → ⊥) → new ≡ s → Reopens d disk after s new result

-- A journal was opened: the serving is in a state that is ready. If the disk reveals its bytes, a read gave just the events of that state; and if it
-- is honest, the file holds them now.
pub record Opened {D : Type 0} (d : Ghosts D) (disk after : D) (serving : Serving) : Type 0 where
  pub secret : List ℕ
  pub kept : List EventView
  pub stands : HasState d serving after (ready_with secret kept)
  pub read : d.tells disk → HoldsEvents secret kept (d.seen disk)
  pub file : d.is_honest disk → IsFound d disk after secret kept
