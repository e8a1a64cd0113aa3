-- An event that is kept, or not.
use Rattle.std.proofs.Common.{◌≡◌, ◌↔◌, ℕ, ◌+◌, ◌≤◌, List, [], ◌∷◌, ◌++◌, None, Some, Result, Err, refl, sym, ap, ◌∙◌, subst, inl, inr, ⊎_elim, IsOk, option_map}
use Rattle.split_base.specs.declared.disk.Disk.{Ghosts}
use Rattle.split_base.specs.Disk.{Each, LeavesOnly}
use Rattle.split_base.specs.Faults.{counted}
use Rattle.split_lemmas.proofs.Moments.{weaker}
use Rattle.gate_log.specs.declared.fault.LogFault.{LogFault}
use Rattle.gate_log.specs.declared.fault.LogFault.TheVariants as fault
use Rattle.host_journal.specs.Journal.{IsBeforeOrAfter, IsHostOf, IsJournalOf}
use Rattle.sealed_core.specs.Host.{CanApply, EventView, HostView, event_view}
use Rattle.host_journal.specs.Calls.{Keeps, ReachesState}
use Rattle.host_journal.specs.States.{HasState, IsFileOf, State, ready_with, waits_with}
use Rattle.host_journal.specs.declared.serving.Serving.{Serving}
use Rattle.host_journal.proofs.Passing.{passes_none}
use Rattle.host_journal.proofs.StateFiles.{files_of, holds_either, holds_kept}

module _ {D T : Type 0} (d : Ghosts D) (serving now : Serving) (disk after : D) (s : State) (stands : HasState d serving disk s) (event : EventView) (result : Result T LogFault)
    (honest : d.is_honest disk ↔ d.is_honest after) (count : d.faults disk ≤ d.faults after) (ready : serving.waiting ≡ None) where
  state_ready : s.waiting ≡ None
  state_ready = sym stands.waiting ∙ ap (option_map event_view) ready

  journal : d.is_honest disk → IsJournalOf (d.images disk) serving.log serving.host.content s.secret s.kept
  journal h = subst (IsFileOf (d.images disk) serving.log serving.host.content s.secret s.kept) state_ready (stands.file h)

  -- it was kept
  pub was_kept : IsOk result → d.faults after ≡ d.faults disk → now.waiting ≡ None → IsHostOf now.host.content s.secret (s.kept ++ event ∷ [])
      → (d.is_honest disk → d.moment after ≡ d.moment disk + 4)
      → (d.is_honest disk → (secret : List ℕ) (events : List EventView) → IsJournalOf (d.images disk) serving.log serving.host.content secret events
      → IsJournalOf (d.images after) now.log now.host.content secret (events ++ event ∷ []))
      → (d.is_honest disk → (secret : List ℕ) (events : List EventView) → IsJournalOf (d.images disk) serving.log serving.host.content secret events
      → LeavesOnly d.moment d.left_since disk after (IsBeforeOrAfter serving.log.version secret events event))
      → ReachesState d now disk after s (λ new. Keeps d disk after event s new result)
  was_kept ok faults still made calls acknowledged any =
      let new : State = ready_with s.secret (s.kept ++ event ∷ []) in
      let stands_now : HasState d now after new = record {
        host = made;
        waiting = ap (option_map event_view) still;
        next = tt;
        file = λ h. acknowledged (honest.1 h) s.secret s.kept (journal (honest.1 h));
      } in
      record {
        new = new;
        stands = stands_now;
        passes = record {
          count = count;
          honest = honest;
          any_moment = λ h. weaker d.moment d.left_since disk after _ _ (any h s.secret s.kept (journal h))
              (λ file either. ⊎_elim (λ has. inl (holds_kept s serving.log.version file has)) (λ has. inr (holds_kept new serving.log.version file has)) either);
          left = files_of d now after new stands_now;
        };
        is = Keeps.kept ok faults
            (λ h. let j = acknowledged h s.secret s.kept (journal h) in record { calls = calls h; holds = λ file image. (now.log.version, record { stands = j.is_log.each file image; kept = j.kept }) })
            refl;
      }

  -- a call of the disk failed, and the host waits
  pub was_lost : result ≡ Err fault.Disk → d.faults after ≡ counted (d.faults disk) → option_map event_view now.waiting ≡ Some event → now.host.content ≡ serving.host.content
      → CanApply serving.host.content event
      → (d.is_honest disk → (secret : List ℕ) (events : List EventView) → IsJournalOf (d.images disk) serving.log serving.host.content secret events
      → Each (d.images after) (IsBeforeOrAfter serving.log.version secret events event))
      → (d.is_honest disk → (secret : List ℕ) (events : List EventView) → IsJournalOf (d.images disk) serving.log serving.host.content secret events
      → LeavesOnly d.moment d.left_since disk after (IsBeforeOrAfter serving.log.version secret events event))
      → ReachesState d now disk after s (λ new. Keeps d disk after event s new result)
  was_lost is faults waits unchanged can left any =
      let new : State = waits_with s event in
      let stands_now : HasState d now after new = record {
        host = record { may_apply = stands.host.may_apply; is_host = unchanged ∙ stands.host.is_host };
        waiting = waits;
        next = subst (λ (h : HostView). CanApply h event) stands.host.is_host can;
        file = λ h file image. holds_either s.secret s.kept event serving.log.version file (left (honest.1 h) s.secret s.kept (journal (honest.1 h)) file image);
      } in
      record {
        new = new;
        stands = stands_now;
        passes = record {
          count = count;
          honest = honest;
          any_moment = λ h. weaker d.moment d.left_since disk after _ _ (any h s.secret s.kept (journal h))
              (λ file either. inr (holds_either s.secret s.kept event serving.log.version file either));
          left = files_of d now after new stands_now;
        };
        is = Keeps.failed is faults refl;
      }
