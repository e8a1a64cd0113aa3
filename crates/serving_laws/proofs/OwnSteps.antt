-- The step by which a request goes, from the state at which it is answered.
use Rattle.std.proofs.Common.{◌≡◌, List, [], ◌∷◌, ◌++◌, Option, None, Some, Ok, refl, sym, ap, ◌∙◌, append-nil}
use Rattle.std.specs.Option.{option_to_list}
use Rattle.host_journal.specs.States.{State, host_in, ready_with}
use Rattle.serving.specs.Exchanges.{Exchange}
use Rattle.reply_texts.specs.Contents.{ContentView}
use Rattle.requests.specs.Commands.{command_of}
use Rattle.requests.specs.Replies.{Replies}
use Rattle.sealed_core.specs.Host.{EventView}
use Rattle.sealed_core.specs.Sealed.{Asked}
use Rattle.sealed_core.specs.Step.{step}
use Rattle.split_http.specs.declared.routes.Route.{Route}
use Rattle.split_http.specs.Places.{IsRouted}
use Rattle.serving_laws.specs.Heard.{IsStepAt}

-- what the request asks, and when
abbrev pub asked : {D : Type 0} → Exchange (D × State) → Route → Asked
asked x route = record { moment = x.moment; command = command_of route.place route.id x.head.key x.body }

-- the event of its step at a state
abbrev pub event_at : {D : Type 0} → Exchange (D × State) → Route → State → Option EventView
event_at x route s = (step (host_in s) x.moment (command_of route.place route.id x.head.key x.body)).event

step_at : {D : Type 0} (x : Exchange (D × State)) (route : Route) → IsRouted x.head.verb x.head.path (Ok route) → (s : State) (content : ContentView) (o : Option EventView) → event_at x route s ≡ o
    → Replies (host_in s) x.moment (command_of route.place route.id x.head.key x.body) content
    → x.due.said ≡ content → x.after.1.secret ≡ s.secret → x.after.1.kept ≡ s.kept ++ option_to_list o → IsStepAt x s (asked x route)
step_at x route routed s content o event replies said secret kept = record {
  route = route;
  told = content;
  routed = routed;
  moment = refl;
  command = refl;
  replies = replies;
  said = said;
  secret = secret;
  kept = kept ∙ ap (λ (p : Option EventView). s.kept ++ option_to_list p) (sym event);
}

-- the step without an event, and the one whose event was kept
pub plain_step : {D : Type 0} (x : Exchange (D × State)) (route : Route) → IsRouted x.head.verb x.head.path (Ok route) → (settled : State) (content : ContentView) → event_at x route settled ≡ None
    → Replies (host_in settled) x.moment (command_of route.place route.id x.head.key x.body) content → x.after.1 ≡ settled → x.due.said ≡ content → IsStepAt x settled (asked x route)
plain_step x route routed settled content event replies is said =
    step_at x route routed settled content None event replies said (ap (λ (y : State). y.secret) is) (ap (λ (y : State). y.kept) is ∙ sym (append-nil settled.kept))

pub kept_step : {D : Type 0} (x : Exchange (D × State)) (route : Route) → IsRouted x.head.verb x.head.path (Ok route) → (settled : State) (content : ContentView) (e : EventView)
    → event_at x route settled ≡ Some e → Replies (host_in settled) x.moment (command_of route.place route.id x.head.key x.body) content
    → x.after.1 ≡ ready_with settled.secret (settled.kept ++ e ∷ []) → x.due.said ≡ content → IsStepAt x settled (asked x route)
kept_step x route routed settled content e event replies is said =
    step_at x route routed settled content (Some e) event replies said (ap (λ (y : State). y.secret) is) (ap (λ (y : State). y.kept) is)
