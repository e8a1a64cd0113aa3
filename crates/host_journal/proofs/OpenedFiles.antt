-- A file that is opened.
use Rattle.std.proofs.Common.{◌≡◌, ◌≢◌, ◌⊎◌, ◌↔◌, ℕ, ◌≤◌, List, [], ◌∷◌, ◌++◌, Option, None, Some, Result, Err, refl, sym, ap, ◌∙◌, subst, inl, inr, ⊎_elim, IsOk, Contains, option_map, arith, IsSome}
use Rattle.std.proofs.lemmas.List.Elements.{Contains-push_cases}
use Rattle.split_base.specs.declared.disk.Disk.{Ghosts}
use Rattle.split_base.specs.Disk.{Each, LeavesOnly, Only, Tears}
use Rattle.split_lemmas.proofs.Moments.{weaker}
use Rattle.gate_log.specs.Calls.{counted_by}
use Rattle.gate_log.specs.declared.fault.LogFault.{LogFault}
use Rattle.gate_log.specs.declared.fault.LogFault.TheVariants as fault
use Rattle.gate_log.specs.declared.limits.TheConstants.{VERSION_GATE}
use Rattle.host_journal.specs.Journal.{HasEvents, HasOpened, HasRaised, HoldsEvents, HoldsOne, IsFirstFault, IsHostWithFile, IsToldOf, LeftAlone}
use Rattle.sealed_core.specs.declared.events.Event.{Event}
use Rattle.sealed_core.specs.Host.{EventView, event_view}
use Rattle.host_journal.specs.Calls.{ReachesState, Reopens}
use Rattle.host_journal.specs.States.{HasState, IsEither, IsFile, IsFileOf, State, lists_of, ready_with}
use Rattle.host_journal.specs.declared.serving.Serving.{Serving}
use Rattle.host_journal.proofs.StateFiles.{files_of}

-- files have one meaning, and one that has a meaning has no fault
abbrev pub OneMeaning : Type 0
OneMeaning = (v w : ℕ) (secret word : List ℕ) (events others : List EventView) (file : List ℕ) → HasEvents v secret events file → HasEvents w word others file
    → (v ≡ w) × (secret ≡ word) × (events ≡ others)

abbrev pub NoFault : Type 0
NoFault = (v place : ℕ) (secret : List ℕ) (events : List EventView) (file : List ℕ) → HasEvents v secret events file → IsFirstFault place file → ⊥

two_lists : (kept : List EventView) (e : EventView) (events : List EventView) → Contains (lists_of kept (Some e)) events → (events ≡ kept) ⊎ (events ≡ kept ++ e ∷ [])
two_lists kept e events among = ⊎_elim (λ first. inl (one first)) (λ is. inr (sym is)) (Contains-push_cases (kept ∷ []) (kept ++ e ∷ []) events among)
  where
    one : Contains (kept ∷ []) events → events ≡ kept
    one first = ⊎_elim (λ none. absurd (omega (arith, none.1))) (λ is. sym is) (Contains-push_cases [] kept events first)

-- the event that waits
pub waiting_event : (given : Option Event) (waiting : Option EventView) → IsSome given → option_map event_view given ≡ waiting → (e : EventView) × (waiting ≡ Some e)
waiting_event None waiting some same = absurd (cc)
waiting_event (Some event) waiting some same = (event_view event, sym same)

module _ {D T : Type 0} (d : Ghosts D) (serving : Serving) (disk after : D) (s : State) (stands : HasState d serving disk s) (event : EventView) (waits : s.waiting ≡ Some event)
    (result : Result T LogFault) (honest : d.is_honest disk ↔ d.is_honest after) (count : d.faults disk ≤ d.faults after)
    (any : d.is_honest disk → (secret : List ℕ) (lists : List (List EventView)) → Each (d.images disk) (HoldsOne secret lists)
    → LeavesOnly d.moment d.left_since disk after (HoldsOne secret lists))
    (left : d.is_honest disk → (secret : List ℕ) (lists : List (List EventView)) → Each (d.images disk) (HoldsOne secret lists) → Each (d.images after) (HoldsOne secret lists))
    (seen : d.is_honest disk → d.images disk (d.seen disk)) where
  files : d.is_honest disk → Each (d.images disk) (IsFile s)
  files = files_of d serving disk s stands

  -- whatever the answer, a crash at any moment of it leaves a file of the state before
  moments : (new : State) → d.is_honest disk → LeavesOnly d.moment d.left_since disk after (IsEither s new)
  moments new h = weaker d.moment d.left_since disk after (IsFile s) (IsEither s new) (any h s.secret (lists_of s.kept s.waiting) (files h)) (λ file is. inl is)

  -- the file holds the events kept, with the one more or without it
  events_seen : OneMeaning → (secret : List ℕ) (kept : List EventView) → HoldsEvents secret kept (d.seen disk) → d.is_honest disk
      → (secret ≡ s.secret) × ((kept ≡ s.kept) ⊎ (kept ≡ s.kept ++ event ∷ []))
  events_seen law secret kept (v, has) h =
      let (events, among, (w, has_one)) = files h (d.seen disk) (seen h) in
      let one = law v w secret s.secret kept events (d.seen disk) has has_one in
      let two = two_lists s.kept event events (subst (λ (o : Option EventView). Contains (lists_of s.kept o) events) waits among) in
      (one.1, ⊎_elim (λ (e : events ≡ s.kept). inl (one.2 ∙ e)) (λ (e : events ≡ s.kept ++ event ∷ []). inr (one.2 ∙ e)) two)

  pub was_opened : OneMeaning → (now : Serving) → IsOk result → d.faults after ≡ d.faults disk → now.waiting ≡ None
      → (d.is_honest disk → Only (d.seen after) (d.images after))
      → (d.is_honest disk → LeftAlone d.seen d.moment disk after ⊎ HasRaised d.seen d.moment disk after)
      → (secret : List ℕ) × (kept : List EventView) × IsHostWithFile now.host.content secret kept
      (IsToldOf (d.tells disk) (d.is_honest disk) (d.seen disk) secret kept (HasOpened (d.seen disk) (d.seen after) (d.images after) now.log now.host.content secret kept))
      → ReachesState d now disk after s (λ new. Reopens d disk after s new result)
  was_opened law now ok faults ready one calls (secret, kept, made) =
      let new : State = ready_with secret kept in
      let stands_now : HasState d now after new = record {
        host = made.of_events;
        waiting = ap (option_map event_view) ready;
        next = tt;
        file = λ h. (made.of_file.holds (honest.1 h)).journal;
      } in
      record {
        new = new;
        stands = stands_now;
        passes = record { count = count; honest = honest; any_moment = moments new; left = files_of d now after new stands_now };
        is = Reopens.opened event secret kept waits ok faults
            (record {
              read = made.of_file.read;
              settled = λ h. let opened = made.of_file.holds h in let seen_now = events_seen law secret kept opened.before h in record {
                secret_stays = seen_now.0;
                either = seen_now.1;
                file = record { before = opened.before; now = opened.after; one = one h; calls = calls h };
              };
            })
            refl;
      }

  -- where the host stays as it is
  stays : (now : Serving) → now.host.content ≡ serving.host.content → now.waiting ≡ serving.waiting → HasState d now after s
  stays now same wait = record {
    host = record { may_apply = stands.host.may_apply; is_host = same ∙ stands.host.is_host };
    waiting = ap (option_map event_view) wait ∙ stands.waiting;
    next = stands.next;
    file = λ h. subst (IsFileOf (d.images after) now.log now.host.content s.secret s.kept) (sym waits)
        (subst (λ (o : Option EventView). Each (d.images after) (HoldsOne s.secret (lists_of s.kept o))) waits (left (honest.1 h) s.secret (lists_of s.kept s.waiting) (files (honest.1 h))));
  }

  was_closed : (now : Serving) → now.host.content ≡ serving.host.content → now.waiting ≡ serving.waiting → Reopens d disk after s s result → ReachesState d now disk after s (λ new. Reopens d disk after s new result)
  was_closed now same wait case = record {
    new = s;
    stands = stays now same wait;
    passes = record { count = count; honest = honest; any_moment = moments s; left = files_of d now after s (stays now same wait) };
    is = case;
  }

  -- the file of a state has no fault
  no_damage : NoFault → (place : ℕ) → (d.is_honest disk → IsFirstFault place (d.seen disk)) → d.is_honest disk → ⊥
  no_damage law place damaged h =
      let (events, among, (v, has)) = files h (d.seen disk) (seen h) in
      law v place s.secret events (d.seen disk) has (damaged h)

  -- each fault of the opening
  pub was_faulty : (now : Serving) → now.host.content ≡ serving.host.content → now.waiting ≡ serving.waiting → NoFault → (d.is_honest disk → d.tells disk) → (f : LogFault) → result ≡ Err f → d.faults after ≡ counted_by (d.faults disk) f
      → (d.is_honest disk → Each (d.images after) (Tears (d.images disk) VERSION_GATE 1))
      → (d.tells disk → (place : ℕ) → f ≡ fault.NotALog place → IsFirstFault place (d.seen disk))
      → f ≢ fault.NoMemory
      → ReachesState d now disk after s (λ new. Reopens d disk after s new result)
  was_faulty now same wait law tells fault.Disk is faults torn damaged memory = was_closed now same wait (Reopens.failed event waits is faults torn refl)
  was_faulty now same wait law tells (fault.NotALog place) is faults torn damaged memory =
      was_closed now same wait (Reopens.damaged event place waits is faults (λ t. damaged t place refl) (no_damage law place (λ h. damaged (tells h) place refl)) refl)
  was_faulty now same wait law tells fault.NoMemory is faults torn damaged memory = absurd (memory refl)
