-- The states of a serving host, and the file of each.
use Rattle.std.specs.Prelude.{◌≡◌, ◌⊎◌, ◌↔◌, ℕ, ◌≤◌, List, [], ◌∷◌, ◌++◌, Option, Some, None, option_map, IfSome}
use Rattle.split_base.specs.declared.disk.Disk.{Ghosts}
use Rattle.split_base.specs.Disk.{Each, LeavesOnly}
use Rattle.gate_log.specs.Log.{LogView}
use Rattle.host_journal.specs.Journal.{HoldsOne, IsHostOf, IsJournalOf}
use Rattle.sealed_core.specs.Host.{CanApply, EventView, HostView, event_view}
use Rattle.sealed_core.specs.Runs.{host_of}
use Rattle.host_journal.specs.declared.serving.Serving.{Serving}

-- a serving state: the secret, the events kept, and, if the host waits, the event whose append failed
pub record State : Type 0 where
  pub secret : List ℕ
  pub kept : List EventView
  pub waiting : Option EventView

-- the host that the kept events make
abbrev pub host_in : State → HostView
host_in s = host_of s.secret s.kept

-- the host is ready, with these events
abbrev pub ready_with : List ℕ → List EventView → State
ready_with secret kept = record { secret = secret; kept = kept; waiting = None }

-- the host has the events of the state, and this one waits
abbrev pub waits_with : State → EventView → State
waits_with s event = record { secret = s.secret; kept = s.kept; waiting = Some event }

-- the file holds one of these lists: the events kept, or, if the host waits, also those with the one more
abbrev pub lists_of : List EventView → Option EventView → List (List EventView)
lists_of kept None = kept ∷ []
lists_of kept (Some event) = kept ∷ (kept ++ event ∷ []) ∷ []

-- the file holds the events that the state keeps, and maybe the one that waits
abbrev pub IsFile : State → List ℕ → Type 0
IsFile s file = HoldsOne s.secret (lists_of s.kept s.waiting) file

-- the file is one of the first state or of the second
abbrev pub IsEither : State → State → List ℕ → Type 0
IsEither s new file = IsFile s file ⊎ IsFile new file

-- if the host is ready, the log is that of the events kept; if it waits, each image holds them, with the one more or without it
abbrev pub IsFileOf : (List ℕ → Type 0) → LogView → HostView → List ℕ → List EventView → Option EventView → Type 0
IsFileOf images log host secret kept None = IsJournalOf images log host secret kept
IsFileOf images log host secret kept (Some event) = Each images (HoldsOne secret (lists_of kept (Some event)))

-- The serving and its disk are in the state. The events kept may be applied one after another, and make the host; the one that waits
-- may be applied after them.
pub record HasState {D : Type 0} (d : Ghosts D) (serving : Serving) (disk : D) (s : State) : Type 0 where
  pub host : IsHostOf serving.host.content s.secret s.kept
  pub waiting : option_map event_view serving.waiting ≡ s.waiting
  pub next : IfSome s.waiting (CanApply (host_in s))
  pub file : d.is_honest disk → IsFileOf (d.images disk) serving.log serving.host.content s.secret s.kept s.waiting

-- A disk goes on while one state becomes another. On an honest disk a crash at any moment of it leaves a file of one of the two states, and
-- one after it a file of the second.
pub record Passes {D : Type 0} (d : Ghosts D) (disk : D) (s : State) (after : D) (new : State) : Type 0 where
  pub count : d.faults disk ≤ d.faults after
  pub honest : d.is_honest disk ↔ d.is_honest after
  pub any_moment : d.is_honest disk → LeavesOnly d.moment d.left_since disk after (IsEither s new)
  pub left : d.is_honest after → Each (d.images after) (IsFile new)
