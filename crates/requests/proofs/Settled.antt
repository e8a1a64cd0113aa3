-- What the opening of the file of a host that waits says.
use Rattle.std.proofs.Common.{◌≡◌, ◌⊎◌, ℕ, List, [], ◌∷◌, ◌++◌, None, Some, Ok, Err, refl, ap, subst}
use Rattle.split_base.specs.declared.disk.Disk.{Ghosts}
use Rattle.gate_log.specs.declared.fault.LogFault.{LogFault}
use Rattle.gate_log.specs.declared.fault.LogFault.TheVariants as fault
use Rattle.host_journal.specs.Calls.{Reopens}
use Rattle.host_journal.specs.Journal.{IsFirstFault}
use Rattle.host_journal.specs.States.{IsFile, State, ready_with}
use Rattle.reply_texts.specs.declared.refusals.ServiceRefusal.TheVariants as service
use Rattle.sealed_core.specs.Host.{EventView}
use Rattle.sealed_core.specs.Runs.{CanApplyAll}
use Rattle.sealed_core.specs.Sealed.{empty}
use Rattle.requests.specs.Cases.{Settles}
use Rattle.requests.specs.Keeping.{FaultSays}
use Rattle.reply_texts.specs.Contents.{ContentView, refusal_told}

module _ {D T : Type 0} (d : Ghosts D) (disk after : D) (s new : State) where
  pub settled_ok : (x : T) → CanApplyAll (empty new.secret) new.kept → Reopens {T = T} d disk after s new (Ok x) → Settles d disk after s new None
  settled_ok x can (Reopens.opened e secret kept waits ok count told is) = Settles.opened e secret kept waits count told (subst (λ (y : State). CanApplyAll (empty y.secret) y.kept) is can) is refl
  settled_ok x can (Reopens.failed e waits bad count torn is) = absurd (cc)
  settled_ok x can (Reopens.damaged e place waits bad count first never is) = absurd (cc)

  settled_fault : (said : ContentView) → said ≡ refusal_told service.StoreFault → Reopens {T = T} d disk after s new (Err fault.Disk) → Settles d disk after s new (Some said)
  settled_fault said same (Reopens.opened e secret kept waits ok count told is) = absurd (cc)
  settled_fault said same (Reopens.failed e waits was count torn is) = Settles.store_fault e waits count torn is (ap Some same)
  settled_fault said same (Reopens.damaged e place waits bad count first never is) = absurd (cc)

  settled_damaged : (place : ℕ) (said : ContentView) → FaultSays (fault.NotALog place) said → Reopens {T = T} d disk after s new (Err (fault.NotALog place)) → Settles d disk after s new (Some said)
  settled_damaged place said same (Reopens.opened e secret kept waits ok count told is) = absurd (cc)
  settled_damaged place said same (Reopens.failed e waits bad count torn is) = absurd (cc)
  settled_damaged place said same (Reopens.damaged e other waits was count first never is) =
      let same_place : other ≡ place = cc was in
      Settles.damaged e place waits count (λ tells. subst (λ (p : ℕ). IsFirstFault p (d.seen disk)) same_place (first tells)) never is (ap Some same)

  settled_memory : (said : ContentView) → Reopens {T = T} d disk after s new (Err fault.NoMemory) → Settles d disk after s new (Some said)
  settled_memory said (Reopens.opened e secret kept waits ok count told is) = absurd (cc)
  settled_memory said (Reopens.failed e waits bad count torn is) = absurd (cc)
  settled_memory said (Reopens.damaged e place waits bad count first never is) = absurd (cc)

  -- what is said of a fault is what the case says
  pub settled_by : (f : LogFault) (said : ContentView) → FaultSays f said → Reopens {T = T} d disk after s new (Err f) → Settles d disk after s new (Some said)
  settled_by fault.Disk said says p = settled_fault said says p
  settled_by (fault.NotALog place) said says p = settled_damaged place said says p
  settled_by fault.NoMemory said says p = settled_memory said p

-- the files of a host that was opened are those of the one that waited
abbrev pub OpenedFiles : Type 0
OpenedFiles = (s : State) (event : EventView) (secret : List ℕ) (kept : List EventView) → s.waiting ≡ Some event → secret ≡ s.secret → (kept ≡ s.kept) ⊎ (kept ≡ s.kept ++ event ∷ [])
    → (file : List ℕ) → IsFile (ready_with secret kept) file → IsFile s file

-- where the request goes on, the files are those of the state before
pub settled_files : OpenedFiles → {D : Type 0} (d : Ghosts D) (disk after : D) (s new : State) → Settles d disk after s new None → d.is_honest disk → (file : List ℕ) → IsFile new file → IsFile s file
settled_files law d disk after s new (Settles.ready waits same is none) honest file here = subst (λ (x : State). IsFile x file) is here
settled_files law d disk after s new (Settles.store_fault e waits count torn is bad) honest file here = absurd (cc)
settled_files law d disk after s new (Settles.damaged e place waits count first never is bad) honest file here = absurd (cc)
settled_files law d disk after s new (Settles.opened e secret kept waits count told can is none) honest file here =
    law s e secret kept waits (told.settled honest).secret_stays (told.settled honest).either file (subst (λ (x : State). IsFile x file) is here)
