-- The events that a journal holds, or the place of its first fault.
use Rattle.std.specs.Prelude.{◌≡◌, ◌⊎◌, ℕ, ◌+◌, ◌≤◌, List, [], ◌∷◌, ◌++◌, map, All, Contains}
use Rattle.split_base.specs.Disk.{IsWritten}
use Rattle.gate_log.specs.declared.limits.TheConstants.{VERSION_GATE}
use Rattle.gate_log.specs.Records.{Begins, Stands, place_after}
use Rattle.gate_log.specs.Faults.{IsHeaderFault, IsFaultAfter}
use Rattle.gate_log.specs.Log.{LogView, IsLogOf, IsReading}
use Rattle.sealed_core.specs.Host.{HostView, EventView, CanApply}
use Rattle.sealed_core.specs.Runs.{CanApplyAll, host_of}
use Rattle.sealed_core.specs.Sealed.{empty}
use Rattle.host_journal.specs.Spelling.{IsEvent, IsOfVersion, Spells, spelling}

-- each event is one of the file's version, and may be applied at its turn from the empty host on
pub record AreKept (version : ℕ) (secret : List ℕ) (events : List EventView) : Type 0 where
  pub each : All IsEvent events
  pub of_version : All (IsOfVersion version) events
  pub may_apply : CanApplyAll (empty secret) events

-- the file has this version, this secret and these events, each by its one spelling
pub record HasEvents (version : ℕ) (secret : List ℕ) (events : List EventView) (file : List ℕ) : Type 0 where
  pub stands : Stands version secret (map spelling events) file
  pub kept : AreKept version secret events

-- the file has this secret and these events, in either version
abbrev pub HoldsEvents : List ℕ → List EventView → List ℕ → Type 0
HoldsEvents secret events file = (version : ℕ) × HasEvents version secret events file

-- the file holds some events
abbrev pub HoldsSome : List ℕ → Type 0
HoldsSome file = (version : ℕ) × (secret : List ℕ) × (events : List EventView) × HasEvents version secret events file

-- the file holds the events, with one more or without it
abbrev pub IsBeforeOrAfter : ℕ → List ℕ → List EventView → EventView → List ℕ → Type 0
IsBeforeOrAfter version secret events e file = HasEvents version secret events file ⊎ HasEvents version secret (events ++ e ∷ []) file

-- each of the events may be applied at its turn, and the host is the one that they make
pub record IsHostOf (host : HostView) (secret : List ℕ) (events : List EventView) : Type 0 where
  pub may_apply : CanApplyAll (empty secret) events
  pub is_host : host ≡ host_of secret events

-- each image holds these events in the log's version, the log is at the closed gate after them, and the host is
-- the one that they make
pub record IsJournalOf (images : List ℕ → Type 0) (log : LogView) (host : HostView) (secret : List ℕ) (events : List EventView) : Type 0 where
  pub is_log : IsLogOf images log secret (map spelling events)
  pub kept : AreKept log.version secret events
  pub is_host : host ≡ host_of secret events

-- the body isn't an event of the file's version that may be applied at its turn
abbrev pub IsNoEvent : ℕ → HostView → List ℕ → Type 0
IsNoEvent version h body = (e : EventView) → Spells e body → IsOfVersion version e → CanApply h e → ⊥

-- after the records of these events the file has a whole record with such a body, its gate at the place
pub record IsEventFault (version : ℕ) (secret : List ℕ) (events : List EventView) (place : ℕ) (file : List ℕ) : Type 0 where
  pub body : List ℕ
  pub begins : Begins version secret (map spelling events ++ body ∷ []) file
  pub no_event : IsNoEvent version (host_of secret events) body
  pub at : place ≡ place_after (map spelling events)

-- The file has a whole header and the whole records of some events. Then comes a record with an open gate and a fault: one of its form, or
-- its body is no such event, which is a fault at the place of its gate.
pub record IsFaultBehindEvents (place : ℕ) (file : List ℕ) : Type 0 where
  pub version : ℕ
  pub secret : List ℕ
  pub events : List EventView
  pub kept : AreKept version secret events
  pub fault : IsFaultAfter version secret (map spelling events) place file ⊎ IsEventFault version secret events place file

-- the file has its first fault at this place
abbrev pub IsFirstFault : ℕ → List ℕ → Type 0
IsFirstFault place file = IsHeaderFault place file ⊎ IsFaultBehindEvents place file

-- While the file is read: the header and the records of these events were read, the log is at the gate after them, and the
-- host is the one that they make.
pub record IsReplaying (file : List ℕ) (log : LogView) (host : HostView) (secret : List ℕ) (events : List EventView) : Type 0 where
  pub reading : IsReading file log secret (map spelling events)
  pub kept : AreKept log.version secret events
  pub is_host : host ≡ host_of secret events

-- the file was read: these are its events, the log is at the closed gate after them, and the host is the one that they make
pub record IsReplayed (file : List ℕ) (log : LogView) (host : HostView) (secret : List ℕ) (events : List EventView) : Type 0 where
  pub has : HasEvents log.version secret events file
  pub place : log.place ≡ place_after (map spelling events)
  pub is_host : host ≡ host_of secret events

-- the file has these bodies, in this version or a later one
abbrev pub HoldsFrom : ℕ → List ℕ → List (List ℕ) → List ℕ → Type 0
HoldsFrom version secret bodies file = (later : ℕ) × (version ≤ later) × Stands later secret bodies file

-- the file holds one of these lists of events, in either version
abbrev pub HoldsOne : List ℕ → List (List EventView) → List ℕ → Type 0
HoldsOne secret lists file = (events : List EventView) × Contains lists events × HoldsEvents secret events file

-- the host is the one that these events make, and `told` is what is known of the file from which they were read
pub record IsHostWithFile (host : HostView) (secret : List ℕ) (events : List EventView) (told : Type 0) : Type 0 where
  pub of_events : IsHostOf host secret events
  pub of_file : told

-- if the disk reveals its bytes, a read gave just these events; and if it is honest, this holds
pub record IsToldOf (tells honest : Type 0) (file : List ℕ) (secret : List ℕ) (events : List EventView) (is : Type 0) : Type 0 where
  pub read : tells → HoldsEvents secret events file
  pub holds : honest → is

-- the file held these events and now holds them in version 2, and host and log are theirs
pub record HasOpened (old new : List ℕ) (images : List ℕ → Type 0) (log : LogView) (host : HostView) (secret : List ℕ) (events : List EventView) : Type 0 where
  pub before : HoldsEvents secret events old
  pub after : HasEvents 2 secret events new
  pub journal : IsJournalOf images log host secret events

-- the file held some events and now holds them in version 2, and host and log are theirs
pub record IsOpened (old new : List ℕ) (images : List ℕ → Type 0) (log : LogView) (host : HostView) : Type 0 where
  pub secret : List ℕ
  pub events : List EventView
  pub before : HoldsEvents secret events old
  pub after : HasEvents 2 secret events new
  pub journal : IsJournalOf images log host secret events

-- the opening did not raise the version: the file is as it was, after one sync
pub record LeftAlone {D : Type 0} (seen : D → List ℕ) (moment : D → ℕ) (old new : D) : Type 0 where
  pub same : seen new ≡ seen old
  pub calls : moment new ≡ moment old + 1

-- the opening raised a file of version 1 to version 2: after that sync its version gate was written, and synced
pub record HasRaised {D : Type 0} (seen : D → List ℕ) (moment : D → ℕ) (old new : D) : Type 0 where
  pub secret : List ℕ
  pub events : List EventView
  pub before : HasEvents 1 secret events (seen old)
  pub written : IsWritten (seen old) VERSION_GATE (1 ∷ []) (seen new)
  pub calls : moment new ≡ moment old + 3
