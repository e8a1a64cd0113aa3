-- The reply to a command on an instance that isn't closed after the step follows from the view.
use Rattle.std.proofs.Common.{◌≡◌, ℕ, zero, suc, ◌-◌, max, Bool, true, false, not, ◌==◌, List, [], ◌∷◌, if◌then◌else◌, is_some, slice_get, Option, None, Some, option_map, refl, sym, ap, ◌∙◌, subst, true≢false}
use Rattle.sealed_core.specs.declared.commands.Ask.{Ask}
use Rattle.sealed_core.specs.declared.replies.Refusal.TheVariants as refusal
use Rattle.sealed_core.specs.declared.replies.Reply.{Reply}
use Rattle.sealed_core.specs.declared.replies.Reply.TheVariants as reply
use Rattle.sealed_core.specs.Host.{InstanceView, HostView, EventView, Closed, instance_at, as_closed, change_at, apply}
use Rattle.sealed_core.specs.Step.{Answer, CommandView, Create, To, standing_of, refused, holder, may_ask, is_over, answer_ask, caller_by, caller_in, answer_to, step}
use Rattle.sealed_core.specs.Sealed.{view_of, view, caller_with, caller_number, sealed_reply, is_shut, is_closed, with_event, host_after, IsSealed}

-- the instance at the changed place is the changed one
pub get_changed : (f : InstanceView → InstanceView) (instances : List InstanceView) (p : ℕ) → slice_get (change_at f instances p) p ≡ option_map f (slice_get instances p)
get_changed f [] p = refl
get_changed f (i ∷ instances) zero = refl
get_changed f (i ∷ instances) (suc p) = get_changed f instances p

-- an instance that is closed at its place is closed
closed_if : (none : Bool) (instances : List InstanceView) (p : ℕ) (i : InstanceView) → (if none then None else slice_get instances p) ≡ Some i
    → is_shut (if none then None else slice_get (change_at as_closed instances p) p) ≡ true
closed_if true instances p i is = absurd (true≢false (sym (ap is_some is)))
closed_if false instances p i is = ap is_shut (get_changed as_closed instances p ∙ ap (option_map as_closed) is)

-- after its Close an instance is closed
pub closed_after : (h : HostView) (id now : ℕ) (i : InstanceView) → instance_at h id ≡ Some i → is_closed (apply h (Closed now id)) id ≡ true
closed_after h id now i is = closed_if (id == 0) h.instances (id - 1) i is

-- where no close comes, the reply is that before the deadline
by_tests : (role over : Bool) (e : EventView) (r : Reply) (a : Answer) (shut : Option EventView → Bool) → shut (Some e) ≡ true
    → shut (if not role then refused refusal.Role else if over then record { event = Some e; reply = r } else a).event ≡ false
    → (if not role then refused refusal.Role else if over then record { event = Some e; reply = r } else a).reply ≡ (if not role then reply.Refused refusal.Role else a.reply)
by_tests false over e r a shut closes stays = refl
by_tests true true e r a shut closes stays = absurd (true≢false (sym closes ∙ stays))
by_tests true false e r a shut closes stays = refl

-- of a command under a key
by_holder : (h : HostView) (t id : ℕ) (ask : Ask) (i : InstanceView) → instance_at h id ≡ Some i → (key : List ℕ) (who : Option ℕ)
    → is_closed (with_event h (answer_to (max t h.moment) id ask (caller_by i who)).event) id ≡ false
    → (answer_to (max t h.moment) id ask (caller_by i who)).reply ≡ sealed_reply (view_of h.moment (Some i) who) t id (Some key) ask
by_holder h t id ask i is key None stays = refl
by_holder h t id ask i is key (Some m) stays =
    by_tests (may_ask m ask) (is_over (max t h.moment) i) (Closed (max t h.moment) id) (answer_ask (max t h.moment) id m (standing_of i m true) ask).reply (answer_ask (max t h.moment) id m (standing_of i m i.closed) ask)
    (λ (e : Option EventView). is_closed (with_event h e) id) (closed_after h id (max t h.moment) i is) stays

-- of a command on an instance
by_instance : (h : HostView) (t id : ℕ) (ask : Ask) (found : Option InstanceView) → instance_at h id ≡ found → (key : Option (List ℕ))
    → is_closed (with_event h (answer_to (max t h.moment) id ask (caller_in h.secret id found key)).event) id ≡ false
    → (answer_to (max t h.moment) id ask (caller_in h.secret id found key)).reply ≡ sealed_reply (view_of h.moment found (caller_with h.secret id found key)) t id key ask
by_instance h t id ask None is key stays = refl
by_instance h t id ask (Some i) is None stays = refl
by_instance h t id ask (Some i) is (Some key) stays = by_holder h t id ask i is key (holder h.secret id i key) stays

-- where the instance stays open, the reply is the one that follows from the view
pub sealed : (h : HostView) (t id : ℕ) (key : Option (List ℕ)) (ask : Ask) → is_closed (host_after h t (To id key ask)) id ≡ false
    → (step h t (To id key ask)).reply ≡ sealed_reply (view h id (caller_number h id key)) t id key ask
sealed h t id key ask stays = by_instance h t id ask (instance_at h id) refl key stays

-- every step is sealed
step_sealed : (h : HostView) (t : ℕ) (command : CommandView) → IsSealed h t command (step h t command)
step_sealed h t (Create body) = tt
step_sealed h t (To id key ask) = sealed h t id key ask

-- the same of an answer that is the step's
pub sealed_from : (h : HostView) (t : ℕ) (command : CommandView) (a : Answer) → a ≡ step h t command → IsSealed h t command a
sealed_from h t command a is = subst (IsSealed h t command) (sym is) (step_sealed h t command)
