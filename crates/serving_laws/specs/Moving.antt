-- How each request in a whole run of the host moves its state, whatever the disk.
use Rattle.std.specs.Prelude.{◌≡◌, ◌⊎◌, ℕ, List, [], ◌∷◌, ◌++◌, Some}
use Rattle.split_base.specs.declared.disk.Disk.{Ghosts}
use Rattle.host_journal.specs.Journal.{HoldsEvents}
use Rattle.host_journal.specs.States.{State, ready_with, waits_with}
use Rattle.serving.specs.Exchanges.{Exchange}
use Rattle.reply_texts.specs.declared.refusals.ServiceRefusal.TheVariants as service
use Rattle.reply_texts.specs.Contents.{refusal_told}
use Rattle.sealed_core.specs.Host.{EventView}
use Rattle.serving_laws.specs.Accepting.{Makes}

-- The state is as it was; or it waited, and its file was opened as this one, whose secret and events are just those that a read gave, if the disk
-- reveals its bytes.
abbrev pub IsReopened : {D : Type 0} → Ghosts D → D → State → State → Type 0
IsReopened d disk s settled =
    (settled ≡ s)
    ⊎ ((event : EventView) × (secret : List ℕ) × (kept : List EventView) × (s.waiting ≡ Some event) × (d.tells disk → HoldsEvents secret kept (d.seen disk))
    × (settled ≡ ready_with secret kept))

-- the state is as it was; or it waited, and is ready with the events kept before, with the one that waited or without it
abbrev pub IsReadyFor : State → State → Type 0
IsReadyFor s settled =
    (settled ≡ s)
    ⊎ ((event : EventView) × (s.waiting ≡ Some event) × ((settled ≡ ready_with s.secret s.kept) ⊎ (settled ≡ ready_with s.secret (s.kept ++ event ∷ []))))

-- A request is answered at this state: the one before it; or, if that one waits, the one that its file was opened as, which on an honest disk has the
-- events kept before, with the one that waited or without it.
abbrev pub IsAnsweredAt : {D : Type 0} → Ghosts D → Exchange (D × State) → State → Type 0
IsAnsweredAt d x settled = IsReopened d x.before.0 x.before.1 settled × (d.is_honest x.before.0 → IsReadyFor x.before.1 settled)

-- A request changes the state at which it is answered by at most one event, which its own step makes. The event is kept after those of that state; or
-- the disk failed in its append, and the host waits with it and says so.
abbrev pub Moves : {D : Type 0} → Exchange (D × State) → State → Type 0
Moves x settled =
    (x.after.1 ≡ settled)
    ⊎ ((event : EventView) × Makes x settled.secret settled.kept event
    × ((x.after.1 ≡ ready_with settled.secret (settled.kept ++ event ∷ [])) ⊎ ((x.after.1 ≡ waits_with settled event) × (x.due.said ≡ refusal_told service.StoreFault))))
