-- What a caller is told of an instance that isn't closed.
use Rattle.std.proofs.Common.{◌≡◌, ℕ, false, List, [], Option, Some, ap, sym, ◌∙◌, unwrap_or, inr, Ok}
use Rattle.split_base.specs.declared.disk.Disk.{Ghosts}
use Rattle.host_journal.specs.States.{State, host_in}
use Rattle.serving.specs.Exchanges.{Exchange}
use Rattle.reply_texts.specs.Contents.{ContentView, refusal_told}
use Rattle.reply_texts.specs.declared.refusals.ServiceRefusal.TheVariants as service
use Rattle.reply_texts.specs.Sealing.{Told, sealed_told}
use Rattle.requests.specs.Cases.{Settles, Steps}
use Rattle.requests.specs.Commands.{command_of}
use Rattle.requests.specs.Replies.{Replies}
use Rattle.requests.specs.Sent.{status_and_text}
use Rattle.sealed_core.specs.declared.commands.Ask.{Ask}
use Rattle.sealed_core.specs.Host.{HostView}
use Rattle.sealed_core.specs.Sealed.{caller_number, host_after, is_closed, view}
use Rattle.sealed_core.specs.Step.{CommandView, Create, To}
use Rattle.split_http.specs.declared.routes.Route.{Route}
use Rattle.split_http.specs.Places.{IsRouted}
use Rattle.serving_laws.specs.Sealing.{IsSealedReply, IsSealedTold, TellsNoStep}
use Rattle.serving_laws.proofs.Answered.{PublishesShut, due_result}

pub same_sent : (said other : ContentView) (a b : ContentView) → said ≡ a → other ≡ b → status_and_text a ≡ status_and_text b → (said.status ≡ other.status) × (said.text ≡ other.text)
same_sent said other a b is_a is_b same = (
  ap (λ (s : ContentView). s.status) is_a ∙ ap (λ (t : Told). t.status) same ∙ sym (ap (λ (s : ContentView). s.status) is_b),
  ap (λ (s : ContentView). s.text) is_a ∙ ap (λ (t : Told). unwrap_or t.text []) same ∙ sym (ap (λ (s : ContentView). s.text) is_b),
)

-- what is sent of a reply on an instance that isn't closed after the step follows from the caller's view
abbrev pub SendsSealed : Type 0
SendsSealed = (h : HostView) (t id : ℕ) (key : Option (List ℕ)) (ask : Ask) (content : ContentView) → is_closed (host_after h t (To id key ask)) id ≡ false → Replies h t (To id key ask) content
    → status_and_text content ≡ sealed_told (view h id (caller_number h id key)) t id key ask

some_same : (said other : ContentView) → Some said ≡ Some other → said ≡ other
some_same said other is = cc

-- a request that goes no further has the reply of no step, where the disk is honest
pub at_once_tells : {D : Type 0} (d : Ghosts D) (x : Exchange (D × State)) → d.is_honest x.before.0 → Settles d x.before.0 x.after.0 x.before.1 x.after.1 (Some x.due.said) → TellsNoStep x x.before.1
at_once_tells d x honest (Settles.ready a b is c) = absurd (cc)
at_once_tells d x honest (Settles.store_fault e a up torn is c) = TellsNoStep.store_fault (some_same x.due.said (refusal_told service.StoreFault) c)
at_once_tells d x honest (Settles.damaged e place a same first never is c) = absurd (never honest)
at_once_tells d x honest (Settles.opened e secret kept a same told can is c) = absurd (cc)

sealed_content : SendsSealed → (h : HostView) (t : ℕ) (command : CommandView) (said : ContentView) (content : ContentView) → Replies h t command content → said ≡ content → IsSealedTold h t command (status_and_text said)
sealed_content sends h t (Create body) said content replies is = tt
sealed_content sends h t (To id key ask) said content replies is = λ still. ap status_and_text is ∙ sends h t id key ask content still replies

module _ {D : Type 0} (d : Ghosts D) (x : Exchange (D × State)) where
  pub at_once_sealed : (settled : State) → Settles d x.before.0 x.after.0 x.before.1 x.after.1 (Some x.due.said) → IsSealedReply d x settled
  at_once_sealed settled (Settles.ready a b is c) = absurd (cc)
  at_once_sealed settled (Settles.store_fault e a up torn is c) = IsSealedReply.nothing (TellsNoStep.store_fault (cc c))
  at_once_sealed settled (Settles.damaged e p a same first shut is c) = IsSealedReply.damaged (record { event = e; place = p; waits = a; first = first; never = shut; said = cc c })
  at_once_sealed settled (Settles.opened e secret kept a same told can is c) = absurd (cc)

  pub steps_sealed : SendsSealed → PublishesShut → (route : Route) (between : D) (settled : State) → IsRouted x.head.verb x.head.path (Ok route)
      → Steps d between x.after.0 x.moment (command_of route.place route.id x.head.key x.body) settled x.after.1 x.due.said → IsSealedReply d x settled
  steps_sealed sends shut route between settled routed (Steps.no_event told a b r is c) =
      IsSealedReply.told route routed (sealed_content sends (host_in settled) x.moment (command_of route.place route.id x.head.key x.body) x.due.said told r c)
  steps_sealed sends shut route between settled routed (Steps.kept told e a can same appended r is c) =
      IsSealedReply.told route routed (sealed_content sends (host_in settled) x.moment (command_of route.place route.id x.head.key x.body) x.due.said told r c)
  steps_sealed sends shut route between settled routed (Steps.failed e a up is c) = IsSealedReply.nothing (TellsNoStep.store_fault c)
  steps_sealed sends shut route between settled routed (Steps.memory id what p a is c) = IsSealedReply.nothing (TellsNoStep.memory (inr (due_result shut x route routed settled id what p)) c)
