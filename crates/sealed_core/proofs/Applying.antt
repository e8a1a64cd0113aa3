-- The event of a step may be applied.
use Rattle.std.proofs.Common.{◌≡◌, ◌≢◌, ℕ, zero, suc, ◌+◌, ◌-◌, ◌<◌, ◌≤◌, ◌⊎◌, inl, inr, max, Bool, true, false, ◌==◌, List, [], ◌∷◌, map, length, if◌then◌else◌, is_some, is_none, Option, None, Some, option_map, IfSome, IsSome, IsSomeAnd, All, refl, ap, sym, subst, ◌∙◌, arith, true≢false, slice_get, slice_index}
use Rattle.std.specs.List.{list_all}
use Rattle.std.specs.Cmp.Lexicographic.{bytes_decides}
use Rattle.std.proofs.lemmas.Bool.{eqb-false, leb-false, cond_both, cases_lt}
use Rattle.std.proofs.lemmas.Option.{slice_get_within, get_or_from_slice_get}
use Rattle.std.proofs.lemmas.List.{get_or_past}
use Rattle.bid_rules.specs.declared.bids.Bid.{Bid}
use Rattle.bid_rules.specs.Facts.{IsCheckedBid}
use Rattle.sealed_core.specs.declared.limits.TheConstants.{MOST_TURNS}
use Rattle.sealed_core.specs.declared.replies.Answered.{Answered}
use Rattle.sealed_core.specs.declared.events.Event.{Event}
use Rattle.sealed_core.specs.Host.{CreationView, InstanceView, HostView, EventView, Created, BidKept, Closed, Withdrawn, AreCheckedInstances, IsCheckedInstance, IsNextTurn, CanApply, event_view, instance_at, kept_turn, kept_bid}
use Rattle.sealed_core.specs.Sameness.{same_text}
use Rattle.sealed_core.specs.Step.{Answer, CommandView, IsCheckedCommand, answer_view, tagged_from, step}
use Rattle.sealed_core.proofs.Fits.{Fits, HasTurn, step_fits}

-- where the search for a tag finds none, no instance has it
pub none_tagged : (id : ℕ) (instances : List InstanceView) (tag : List ℕ) → tagged_from id instances tag ≡ None → All (λ i. i.creation.tag ≢ tag) instances
none_tagged id [] tag is k d there = absurd (omega arith)
none_tagged id (i ∷ instances) tag is zero d there = λ same.
    cond_both (same_text i.creation.tag tag) (Some (id, i.creation)) (tagged_from (id + 1) instances tag) (λ (o : Option (ℕ × CreationView)). o ≡ None → ⊥)
    (λ _ none. true≢false (ap is_some none)) (λ differs _. true≢false (sym ((bytes_decides i.creation.tag tag).1 same) ∙ differs)) is
none_tagged id (i ∷ instances) tag is (suc k) d there =
    none_tagged (id + 1) instances tag
    (cond_both (same_text i.creation.tag tag) (Some (id, i.creation)) (tagged_from (id + 1) instances tag) (λ (o : Option (ℕ × CreationView)). o ≡ None → tagged_from (id + 1) instances tag ≡ None)
    (λ _ none. absurd (true≢false (ap is_some none))) (λ _ none. none) is) k d (omega arith)

-- an instance found at a place among sound ones is sound
found_if : (none : Bool) (instances : List InstanceView) (p : ℕ) (i : InstanceView) → (if none then None else slice_get instances p) ≡ Some i → All IsCheckedInstance instances → IsCheckedInstance i
found_if true instances p i is sound = absurd (true≢false (sym (ap is_some is)))
found_if false instances p i is sound = subst IsCheckedInstance (get_or_from_slice_get instances p i i is) (sound p i (slice_get_within instances p i is))

-- an instance of a sound host is sound
pub sound_found : (h : HostView) (id : ℕ) (i : InstanceView) → AreCheckedInstances h.instances → instance_at h id ≡ Some i → IsCheckedInstance i
sound_found h id i sound is = found_if (id == 0) h.instances (id - 1) i is sound.each

-- what holds of a value holds of the option that has it
pub at_least : {A : Type 0} (o : Option A) (x : A) (P : A → Type 0) → o ≡ Some x → P x → IsSomeAnd o P
at_least o x P is p = subst (λ (q : Option _). IsSomeAnd q P) (sym is) p

-- a kept turn is at most the greatest, past the list too
turn_at : (turns : List ℕ) (p : ℕ) → All (λ turn. turn ≤ MOST_TURNS) turns → (p < length turns) ⊎ (length turns ≤ p) → slice_index turns p ≤ MOST_TURNS
turn_at turns p used (inl there) = used p 0 there
turn_at turns p used (inr past) = rw (get_or_past turns p 0 past) (omega arith)

-- so is that of a member or the organiser
turn_if : (organiser : Bool) (turns : List ℕ) (p : ℕ) → All (λ turn. turn ≤ MOST_TURNS) turns → (if organiser then 0 else slice_index turns p) ≤ MOST_TURNS
turn_if true turns p used = omega arith
turn_if false turns p used = turn_at turns p used (cases_lt p (length turns))

-- a turn that a step keeps is the next one of a sound instance
next_turn : (now m turn : ℕ) (i : InstanceView) → IsCheckedInstance i → HasTurn now i m turn → IsNextTurn now i m turn
next_turn now m turn i sound has =
    let few = turn_if (m == 0) i.turns (m - 1) sound.used in
    let left = eqb-false (kept_turn i m) MOST_TURNS has.used in
    let next = has.next in
    record { open_ = has.open_; early = leb-false _ _ has.early; least = has.least; most = has.most; next = has.next; used = omega (arith, few, left, next) }

-- where each entry has a bid, each is there
all_some : (bids : List (Option Bid)) → list_all (λ (has : Bool). has) (map is_some bids) ≡ true → All (λ bid. IsSome bid) bids
all_some [] is k d there = absurd (omega arith)
all_some (None ∷ bids) is k d there = absurd (true≢false (sym is))
all_some (Some bid ∷ bids) is zero d there = refl
all_some (Some bid ∷ bids) is (suc k) d there = all_some bids is k d (omega arith)

-- a bid that is not none is there
is_there : (bid : Option Bid) → is_none bid ≡ false → IsSome bid
is_there None is = absurd (true≢false is)
is_there (Some bid) is = refl

-- the moment of an event is not below the greatest kept one
not_before : (a t : ℕ) (now : ℕ) → now ≡ max t a → a ≤ now
not_before a t now is = omega (arith, is)

-- an event that fits its step may be applied
pub event_applies : (h : HostView) (t : ℕ) (command : CommandView) → AreCheckedInstances h.instances → IsCheckedCommand command → (o : Option EventView) → Fits h t command o → IfSome o (CanApply h)
event_applies h t command sound right None fits = tt
event_applies h t command sound right (Some (Created now c)) fits =
    (not_before h.moment t now fits.0, (fits.2, subst IsCheckedCommand fits.1 right, none_tagged 1 h.instances c.tag fits.3))
event_applies h t command sound right (Some (BidKept now id m turn given)) fits =
    let i = fits.2.0 in (
      not_before h.moment t now fits.0,
      at_least (instance_at h id) i (λ (i : InstanceView). IsNextTurn now i m turn × IsCheckedBid i.creation.facts given) fits.2.1
          (next_turn now m turn i (sound_found h id i sound fits.2.1) fits.2.2, fits.2.3),
    )
event_applies h t command sound right (Some (Closed now id)) fits =
    let i = fits.1.0 in (
      not_before h.moment t now fits.0,
      at_least (instance_at h id) i (λ (i : InstanceView). (i.closed ≡ false) × ((i.creation.deadline ≤ now) ⊎ All (λ bid. IsSome bid) i.bids)) fits.1.1
          (fits.1.2, end i fits.1.3),
    )
  where
    end : (i : InstanceView) → (i.creation.deadline ≤ now) ⊎ (list_all (λ (has : Bool). has) (map is_some i.bids) ≡ true) → (i.creation.deadline ≤ now) ⊎ All (λ bid. IsSome bid) i.bids
    end i (inl late) = inl late
    end i (inr all) = inr (all_some i.bids all)
event_applies h t command sound right (Some (Withdrawn now id m turn)) fits =
    let i = fits.2.0 in (
      not_before h.moment t now fits.0,
      at_least (instance_at h id) i (λ (i : InstanceView). IsNextTurn now i m turn × IsSome (kept_bid i m)) fits.2.1
          (next_turn now m turn i (sound_found h id i sound fits.2.1) fits.2.2, is_there (kept_bid i m) fits.2.3),
    )

-- what holds of an event's view, for the event as the code holds it
seen_event : (h : HostView) (event : Option Event) → IfSome (option_map event_view event) (CanApply h) → IfSome event (λ e. CanApply h (event_view e))
seen_event h None can = tt
seen_event h (Some e) can = can

-- the event of an answer that is the step's may be applied
pub applies_from : (h : HostView) (t : ℕ) (command : CommandView) (a : Answered) → AreCheckedInstances h.instances → IsCheckedCommand command → answer_view a ≡ step h t command
    → IfSome a.event (λ e. CanApply h (event_view e))
applies_from h t command a sound right is =
    seen_event h a.event (subst (λ (b : Answer). IfSome b.event (CanApply h)) (sym is) (event_applies h t command sound right (step h t command).event (step_fits h t command)))
