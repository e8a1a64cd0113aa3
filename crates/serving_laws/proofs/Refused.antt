-- What a request without success changes.
use Rattle.std.proofs.Common.{◌≡◌, ◌⊎◌, ℕ, true, Option, Some, refl, sym, ap, subst, inl, inr, ⊎_elim, Ok}
use Rattle.split_base.specs.declared.disk.Disk.{Ghosts}
use Rattle.host_journal.specs.States.{State, host_in}
use Rattle.serving.specs.Exchanges.{Exchange}
use Rattle.reply_texts.specs.Contents.{ContentView}
use Rattle.reply_texts.specs.Replies.{status_of}
use Rattle.requests.specs.Cases.{Settles, Steps}
use Rattle.requests.specs.Commands.{command_of}
use Rattle.requests.specs.Replies.{Replies, Shows}
use Rattle.sealed_core.specs.declared.commands.What.{What}
use Rattle.sealed_core.specs.declared.replies.Reply.{Reply}
use Rattle.sealed_core.specs.declared.replies.Reply.TheVariants as reply
use Rattle.sealed_core.specs.Host.{EventView, HostView}
use Rattle.sealed_core.specs.Sealed.{IsLateClose, is_refused}
use Rattle.sealed_core.specs.Step.{CommandView, step}
use Rattle.split_http.specs.declared.routes.Route.{Route}
use Rattle.split_http.specs.Places.{IsRouted}
use Rattle.serving_laws.specs.Refusing.{IsSuccess, StaysBut}
use Rattle.serving_laws.proofs.Quiet.{quiet_step}

-- the event beside a publication is none or such a close
abbrev pub PublishesQuietly : Type 0
PublishesQuietly = (h : HostView) (t id : ℕ) (command : CommandView) (what : What) → (step h t command).reply ≡ reply.Publish id what → IsLateClose h t command (step h t command).event

success_or_refused : (r : Reply) → IsSuccess (status_of r) ⊎ (is_refused r ≡ true)
success_or_refused (reply.Created id) = inl (inr refl)
success_or_refused (reply.Status id you) = inl (inl refl)
success_or_refused (reply.Kept turn) = inl (inl refl)
success_or_refused (reply.Own id member) = inl (inl refl)
success_or_refused reply.Closed = inl (inl refl)
success_or_refused (reply.Publish id what) = inl (inl refl)
success_or_refused (reply.Refused r) = inr refl

-- a step whose reply tells no success has no event, or such a close
shown_quiet : PublishesQuietly → (h : HostView) (t : ℕ) (command : CommandView) (told : ContentView) → (IsSuccess told.status → ⊥) → Replies h t command told → IsLateClose h t command (step h t command).event
shown_quiet publishes h t command told none (Shows.own bytes text is) =
    ⊎_elim (λ success. absurd (none (subst IsSuccess (sym (ap (λ (c : ContentView). c.status) is)) success))) (λ refused. quiet_step h t command refused)
    (success_or_refused (step h t command).reply)
shown_quiet publishes h t command told none (Shows.published id asked i was there tells) = publishes h t id command asked was

-- a request that goes no further leaves the state
pub at_once_stays : {D : Type 0} (d : Ghosts D) (disk after : D) (s new : State) (said : ContentView) → Settles d disk after s new (Some said) → new ≡ s
at_once_stays d disk after s new said (Settles.ready a b is c) = is
at_once_stays d disk after s new said (Settles.store_fault e a up torn is c) = is
at_once_stays d disk after s new said (Settles.damaged e place a same first never is c) = is
at_once_stays d disk after s new said (Settles.opened e secret kept a same told can is c) = absurd (cc)

module _ {D : Type 0} (d : Ghosts D) (x : Exchange (D × State)) (publishes : PublishesQuietly) (none : IsSuccess x.due.said.status → ⊥) where
  pub steps_stay : (route : Route) (between : D) (settled : State) → IsRouted x.head.verb x.head.path (Ok route)
      → Steps d between x.after.0 x.moment (command_of route.place route.id x.head.key x.body) settled x.after.1 x.due.said → StaysBut x settled
  steps_stay route between settled routed (Steps.no_event told a b r is c) = inl is
  steps_stay route between settled routed (Steps.kept told e a can count appended r is c) =
      let command = command_of route.place route.id x.head.key x.body in
      let failed : IsSuccess told.status → ⊥ = λ success. none (subst IsSuccess (sym (ap (λ (s : ContentView). s.status) c)) success) in
      let late : IsLateClose (host_in settled) x.moment command (Some e) =
      subst (λ (o : Option EventView). IsLateClose (host_in settled) x.moment command o) a (shown_quiet publishes (host_in settled) x.moment command told failed r) in
      inr (e, inl ((route, routed, a, late), is))
  steps_stay route between settled routed (Steps.failed e a up is c) = inr (e, inr ((route, routed, a), is, c))
  steps_stay route between settled routed (Steps.memory id what p a is c) = inl is
