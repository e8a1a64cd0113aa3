-- What a crash leaves of a run.
use Rattle.std.specs.Prelude.{◌⊎◌, ℕ, ◌≤◌, List, [], ◌∷◌, ◌++◌}
use Rattle.split_base.specs.declared.disk.Disk.{Ghosts}
use Rattle.host_journal.specs.Journal.{HoldsEvents}
use Rattle.host_journal.specs.States.{IsFile, State}
use Rattle.serving.specs.Exchanges.{Exchange}
use Rattle.sealed_core.specs.Host.{EventView}

-- the file is one of this state, or of a state that one of these requests leaves
abbrev pub IsFileOfOne : {D : Type 0} → State → List (Exchange (D × State)) → List ℕ → Type 0
IsFileOfOne s [] file = IsFile s file
IsFileOfOne s (e ∷ later) file = IsFile s file ⊎ IsFileOfOne e.after.1 later file

-- whatever a crash might have left since a request was answered is a file of the state that it left, or of a later one
abbrev pub Since : {D : Type 0} → Ghosts D → D → D × State → List (Exchange (D × State)) → Type 0
Since d last w [] = (d.moment w.0 ≤ d.moment last) × ((file : List ℕ) → d.left_since last (d.moment w.0) file → IsFile w.1 file)
Since d last w (e ∷ later) =
    (d.moment w.0 ≤ d.moment e.after.0) × ((file : List ℕ) → d.left_since last (d.moment w.0) file → IsFileOfOne w.1 (e ∷ later) file) × Since d last e.after later

-- the file holds the events that the state keeps, at their places, and maybe more after them
abbrev pub HoldsKept : State → List ℕ → Type 0
HoldsKept s file = (more : List EventView) × HoldsEvents s.secret (s.kept ++ more) file

-- whatever a crash might have left since a request was answered holds the events that were kept then
abbrev pub Acknowledges : {D : Type 0} → Ghosts D → D → D × State → List (Exchange (D × State)) → Type 0
Acknowledges d last w [] = (file : List ℕ) → d.left_since last (d.moment w.0) file → HoldsKept w.1 file
Acknowledges d last w (e ∷ later) = ((file : List ℕ) → d.left_since last (d.moment w.0) file → HoldsKept w.1 file) × Acknowledges d last e.after later
