-- Events with one more.
use Rattle.std.proofs.Common.{◌≡◌, ℕ, List, [], ◌∷◌, ◌++◌, map, refl, sym, ap, ◌∙◌, subst}
use Rattle.std.proofs.lemmas.List.{map-append}
use Rattle.std.proofs.lemmas.List.Elements.{All-nil, All-cons, All-append}
use Rattle.sealed_core.specs.Host.{HostView, EventView, CanApply, apply}
use Rattle.sealed_core.specs.Runs.{CanApplyAll, apply_all, host_of}
use Rattle.sealed_core.specs.Sealed.{empty}
use Rattle.host_journal.specs.Spelling.{IsEvent, IsOfVersion, spelling}
use Rattle.host_journal.specs.Journal.{AreKept, IsHostOf}

-- events that may be applied in turn, and one that may be applied after them
may_push : (h : HostView) (events : List EventView) (e : EventView) → CanApplyAll h events → CanApply (apply_all h events) e → CanApplyAll h (events ++ e ∷ [])
may_push h [] e may can = (can, tt)
may_push h (first ∷ events) e (one, may) can = (one, may_push (apply h first) events e may can)

-- the host after one event more
host_push : (h : HostView) (events : List EventView) (e : EventView) → apply_all h (events ++ e ∷ []) ≡ apply (apply_all h events) e
host_push h [] e = refl
host_push h (first ∷ events) e = host_push (apply h first) events e

-- the same from the empty host on
pub after_push : (secret : List ℕ) (events : List EventView) (e : EventView) → host_of secret (events ++ e ∷ []) ≡ apply (host_of secret events) e
after_push secret events e = host_push (empty secret) events e

-- kept events with one more
pub kept_push : (version : ℕ) (secret : List ℕ) (events : List EventView) (e : EventView) → AreKept version secret events → IsEvent e → IsOfVersion version e → CanApply (host_of secret events) e
    → AreKept version secret (events ++ e ∷ [])
kept_push version secret events e kept is of can = record {
  each = All-append IsEvent events (e ∷ []) kept.each (All-cons IsEvent e [] is (All-nil IsEvent));
  of_version = All-append (IsOfVersion version) events (e ∷ []) kept.of_version (All-cons (IsOfVersion version) e [] of (All-nil (IsOfVersion version)));
  may_apply = may_push (empty secret) events e kept.may_apply can;
}

-- their bodies
pub bodies_push : (events : List EventView) (e : EventView) → map spelling (events ++ e ∷ []) ≡ map spelling events ++ spelling e ∷ []
bodies_push events e = map-append spelling events (e ∷ [])

-- the host that is made of the events, after one more
pub made_push : (host new : HostView) (secret : List ℕ) (events : List EventView) (e : EventView) → IsHostOf host secret events → CanApply host e → new ≡ apply host e
    → IsHostOf new secret (events ++ e ∷ [])
made_push host new secret events e made can is = record {
  may_apply = may_push (empty secret) events e made.may_apply (subst (λ (h : HostView). CanApply h e) made.is_host can);
  is_host = is ∙ ap (λ (h : HostView). apply h e) made.is_host ∙ sym (after_push secret events e);
}

-- the empty host is made of none
pub made_of_none : (host : HostView) (secret : List ℕ) → host ≡ empty secret → IsHostOf host secret []
made_of_none host secret is = record { may_apply = tt; is_host = is }
