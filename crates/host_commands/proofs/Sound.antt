-- The host of events that may be applied one after another is sound, and whatever the disk each request leaves it so.
use Rattle.std.proofs.Common.{◌≡◌, ℕ, zero, suc, ◌-◌, ◌≤◌, ◌==◌, Bool, true, false, List, [], ◌∷◌, ◌++◌, length, if◌then◌else◌, is_some, Option, None, Some, IfSome, IsSomeAnd, All, slice_get, refl, ap, sym, subst, ◌∙◌, arith, true≢false}
use Rattle.std.proofs.lemmas.List.{length-set, length-replicate, length_push}
use Rattle.std.proofs.lemmas.List.Elements.{All-push, All-replicate, All-set}
use Rattle.std.proofs.lemmas.Option.{slice_get_within, get_or_from_slice_get}
use Rattle.bid_rules.specs.declared.bids.Bid.{Bid}
use Rattle.bid_rules.specs.Facts.{IsCheckedBid}
use Rattle.host_journal.specs.States.{State, host_in}
use Rattle.serving.specs.Exchanges.{Exchange}
use Rattle.requests.specs.Cases.{Responds, Settles, Steps}
use Rattle.requests.specs.Commands.{command_of}
use Rattle.split_base.specs.declared.disk.Disk.{Ghosts}
use Rattle.sealed_core.specs.declared.limits.TheConstants.{MOST_TURNS}
use Rattle.sealed_core.specs.Host.{AreCheckedInstances, BidKept, CanApply, Closed, Created, CreationView, EventView, HostView, InstanceView, IsCheckedCreation, IsCheckedInstance, IsNextTurn, Withdrawn, apply, as_closed, change_at, new_instance, instance_at, with_turn}
use Rattle.sealed_core.specs.Runs.{CanApplyAll, apply_all}
use Rattle.sealed_core.specs.Sealed.{empty}
use Rattle.sealed_core.specs.Step.{CommandView}
use Rattle.reply_texts.specs.Contents.{ContentView}

sound_fresh : (c : CreationView) → IsCheckedCreation c → IsCheckedInstance (new_instance c)
sound_fresh c right = record {
  creation = right;
  turns = length-replicate (length c.members) 0;
  bids = length-replicate (length c.members) None;
  used = All-replicate (λ (turn : ℕ). turn ≤ MOST_TURNS) (length c.members) 0 (omega arith);
  checked = All-replicate (λ (bid : Option Bid). IfSome bid (IsCheckedBid c.facts)) (length c.members) None tt;
}

sound_turn : (now m turn : ℕ) (bid : Option Bid) (i : InstanceView) → IsCheckedInstance i → IsNextTurn now i m turn → IfSome bid (IsCheckedBid i.creation.facts) → IsCheckedInstance (with_turn m turn bid i)
sound_turn now m turn bid i sound next right = record {
  creation = sound.creation;
  turns = length-set i.turns (m - 1) turn ∙ sound.turns;
  bids = length-set i.bids (m - 1) bid ∙ sound.bids;
  used = All-set (λ (turn : ℕ). turn ≤ MOST_TURNS) i.turns (m - 1) turn next.used sound.used;
  checked = All-set (λ (bid : Option Bid). IfSome bid (IsCheckedBid i.creation.facts)) i.bids (m - 1) bid right sound.checked;
}

sound_closed : (i : InstanceView) → IsCheckedInstance i → IsCheckedInstance (as_closed i)
sound_closed i sound = record { creation = sound.creation; turns = sound.turns; bids = sound.bids; used = sound.used; checked = sound.checked }

length-changed : (f : InstanceView → InstanceView) (instances : List InstanceView) (p : ℕ) → length (change_at f instances p) ≡ length instances
length-changed f [] p = refl
length-changed f (i ∷ instances) zero = refl
length-changed f (i ∷ instances) (suc p) = ap suc (length-changed f instances p)

each_changed : (f : InstanceView → InstanceView) (instances : List InstanceView) (p : ℕ) → All IsCheckedInstance instances → ((i : InstanceView) → slice_get instances p ≡ Some i → IsCheckedInstance (f i)) → All IsCheckedInstance (change_at f instances p)
each_changed f [] p each new k d there = absurd (omega arith)
each_changed f (i ∷ instances) zero each new zero d there = new i refl
each_changed f (i ∷ instances) zero each new (suc k) d there = each (suc k) d (omega (arith, there))
each_changed f (i ∷ instances) (suc p) each new zero d there = each zero d (omega arith)
each_changed f (i ∷ instances) (suc p) each new (suc k) d there = each_changed f instances p (λ j e below. each (suc j) e (omega (arith, below))) new k d (omega (arith, there))

sound_changed : (f : InstanceView → InstanceView) (instances : List InstanceView) (p : ℕ) → AreCheckedInstances instances → ((i : InstanceView) → slice_get instances p ≡ Some i → IsCheckedInstance (f i)) → AreCheckedInstances (change_at f instances p)
sound_changed f instances p sound new = let size = length-changed f instances p in let few = sound.few in record { each = each_changed f instances p sound.each new; few = omega (arith, size, few) }

-- what is told of the instance at an id is so of the one at its place
allowed_at : (none : Bool) (found : Option InstanceView) (P : InstanceView → Type 0) (i : InstanceView) → found ≡ Some i → IsSomeAnd (if none then None else found) P → P i
allowed_at true found P i is there = absurd there
allowed_at false found P i is there = subst (λ (o : Option InstanceView). IsSomeAnd o P) is there

sound_place : (instances : List InstanceView) (p : ℕ) (i : InstanceView) → AreCheckedInstances instances → slice_get instances p ≡ Some i → IsCheckedInstance i
sound_place instances p i sound is = subst IsCheckedInstance (get_or_from_slice_get instances p i i is) (sound.each p i (slice_get_within instances p i is))

sound_apply : (h : HostView) (e : EventView) → AreCheckedInstances h.instances → CanApply h e → AreCheckedInstances (apply h e).instances
sound_apply h (Created now c) sound (later, (few, right, tags)) =
    let size = length_push h.instances (new_instance c) in
    record { each = All-push IsCheckedInstance h.instances (new_instance c) sound.each (sound_fresh c right); few = omega (arith, size, few) }
sound_apply h (BidKept now id m turn bid) sound (later, allowed) =
    sound_changed (with_turn m turn (Some bid)) h.instances (id - 1) sound (λ i at.
    let both = allowed_at (id == 0) (slice_get h.instances (id - 1)) (λ (j : InstanceView). IsNextTurn now j m turn × IsCheckedBid j.creation.facts bid) i at allowed in
    sound_turn now m turn (Some bid) i (sound_place h.instances (id - 1) i sound at) both.0 both.1)
sound_apply h (Closed now id) sound (later, allowed) = sound_changed as_closed h.instances (id - 1) sound (λ i at. sound_closed i (sound_place h.instances (id - 1) i sound at))
sound_apply h (Withdrawn now id m turn) sound (later, allowed) =
    sound_changed (with_turn m turn None) h.instances (id - 1) sound (λ i at.
    let both = allowed_at (id == 0) (slice_get h.instances (id - 1)) _ i at allowed in
    sound_turn now m turn None i (sound_place h.instances (id - 1) i sound at) both.0 tt)

sound_all : (h : HostView) (events : List EventView) → AreCheckedInstances h.instances → CanApplyAll h events → AreCheckedInstances (apply_all h events).instances
sound_all h [] sound can = sound
sound_all h (e ∷ events) sound (first, rest) = sound_all (apply h e) events (sound_apply h e sound first) rest

can_push : (h : HostView) (events : List EventView) (e : EventView) → CanApplyAll h events → CanApply (apply_all h events) e → CanApplyAll h (events ++ e ∷ [])
can_push h [] e can one = (one, tt)
can_push h (x ∷ events) e (first, rest) one = (first, can_push (apply h x) events e rest one)

no_instances : AreCheckedInstances []
no_instances = record { each = λ k d there. absurd (omega (arith, there)); few = omega arith }

-- the events of the state may be applied in turn
abbrev pub IsSound : State → Type 0
IsSound s = CanApplyAll (empty s.secret) s.kept

-- so its host is sound
pub sound_state : (s : State) → IsSound s → AreCheckedInstances (host_in s).instances
sound_state s sound = sound_all (empty s.secret) s.kept no_instances sound

-- a state that is as before
still_sound : (s new : State) → new ≡ s → IsSound s → IsSound new
still_sound s new same sound = subst IsSound (sym same) sound

module _ {D : Type 0} (d : Ghosts D) where
  sound_settled : (disk after : D) (s new : State) (result : Option ContentView) → Settles d disk after s new result → IsSound s → IsSound new
  sound_settled disk after s new result (Settles.ready none still same is) sound = still_sound s new same sound
  sound_settled disk after s new result (Settles.store_fault e waits faults torn same is) sound = still_sound s new same sound
  sound_settled disk after s new result (Settles.damaged e place waits faults first never same is) sound = still_sound s new same sound
  sound_settled disk after s new result (Settles.opened e secret kept waits faults settled can same is) sound = subst IsSound (sym same) can

  pub sound_step : (disk after : D) (moment : ℕ) (command : CommandView) (s new : State) (said : ContentView) → Steps d disk after moment command s new said → IsSound s → IsSound new
  sound_step disk after moment command s new said (Steps.no_event told none still replies same so) sound = still_sound s new same sound
  sound_step disk after moment command s new said (Steps.kept told e event can faults appended replies same so) sound = subst IsSound (sym same) (can_push (empty s.secret) s.kept e sound can)
  sound_step disk after moment command s new said (Steps.failed e event faults same so) sound = subst IsSound (sym same) sound
  sound_step disk after moment command s new said (Steps.memory id what published still same so) sound = still_sound s new same sound

  -- whatever the disk, a request leaves a sound state so
  pub sound_response : (x : Exchange (D × State)) → Responds d x.before.0 x.after.0 x.head x.body x.moment x.before.1 x.after.1 x.due.said → IsSound x.before.1 → IsSound x.after.1
  sound_response x (Responds.no_route routed still same so) sound = still_sound x.before.1 x.after.1 same sound
  sound_response x (Responds.method allow routed still same so) sound = still_sound x.before.1 x.after.1 same sound
  sound_response x (Responds.at_once route routed settles) sound = sound_settled x.before.0 x.after.0 x.before.1 x.after.1 (Some x.due.said) settles sound
  sound_response x (Responds.stepped route between settled routed settles one steps two) sound =
      sound_step between x.after.0 x.moment (command_of route.place route.id x.head.key x.body) settled x.after.1 x.due.said steps
      (sound_settled x.before.0 between x.before.1 settled None settles sound)
  sound_response x (Responds.memory way led reads still same so) sound = still_sound x.before.1 x.after.1 same sound

found_if : (none : Bool) (instances : List InstanceView) (p : ℕ) (i : InstanceView) → (if none then None else slice_get instances p) ≡ Some i → AreCheckedInstances instances → IsCheckedInstance i
found_if true instances p i is sound = absurd (true≢false (sym (ap is_some is)))
found_if false instances p i is sound = sound_place instances p i sound is

-- an instance of a sound host
pub sound_found : (h : HostView) (id : ℕ) (i : InstanceView) → AreCheckedInstances h.instances → instance_at h id ≡ Some i → IsCheckedInstance i
sound_found h id i sound is = found_if (id == 0) h.instances (id - 1) i is sound
