-- A step, and its event.
use Rattle.std.proofs.Common.{◌≡◌, ℕ, Option, Some, Ok, Err, refl, sym, ap, ◌∙◌, subst}
use Rattle.split_base.specs.declared.disk.Disk.{Ghosts}
use Rattle.gate_log.specs.declared.fault.LogFault.{LogFault}
use Rattle.gate_log.specs.declared.fault.LogFault.TheVariants as fault
use Rattle.host_journal.specs.Calls.{Keeps}
use Rattle.host_journal.specs.States.{State, host_in}
use Rattle.reply_texts.specs.Contents.{ContentView, refusal_told}
use Rattle.reply_texts.specs.declared.refusals.ServiceRefusal.TheVariants as service
use Rattle.sealed_core.specs.declared.replies.Reply.{Reply}
use Rattle.sealed_core.specs.Host.{CanApply, EventView, HostView}
use Rattle.sealed_core.specs.Sealed.{with_event}
use Rattle.sealed_core.specs.Step.{Answer, CommandView, step}
use Rattle.requests.specs.Cases.{Steps}
use Rattle.requests.specs.Keeping.{FaultSays, KeepsSaid}
use Rattle.requests.specs.Replies.{Replies, Shows}

module _ {D T : Type 0} (d : Ghosts D) (disk after : D) (event : EventView) (due : ContentView) (s new : State) where
  pub kept_ok : (x : T) → Keeps {T = T} d disk after event s new (Ok x) → KeepsSaid d disk after event due s new due
  kept_ok x (Keeps.kept ok count appended is) = KeepsSaid.kept count appended is refl
  kept_ok x (Keeps.failed bad count is) = absurd (cc)

  kept_fault : (said : ContentView) → said ≡ refusal_told service.StoreFault → Keeps {T = T} d disk after event s new (Err fault.Disk) → KeepsSaid d disk after event due s new said
  kept_fault said told (Keeps.kept ok count appended is) = absurd (cc)
  kept_fault said told (Keeps.failed was count is) = KeepsSaid.failed count is told

  kept_not : (place : ℕ) (said : ContentView) → Keeps {T = T} d disk after event s new (Err (fault.NotALog place)) → KeepsSaid d disk after event due s new said
  kept_not place said (Keeps.kept ok count appended is) = absurd (cc)
  kept_not place said (Keeps.failed was count is) = absurd (cc)

  kept_memory : (said : ContentView) → Keeps {T = T} d disk after event s new (Err fault.NoMemory) → KeepsSaid d disk after event due s new said
  kept_memory said (Keeps.kept ok count appended is) = absurd (cc)
  kept_memory said (Keeps.failed was count is) = absurd (cc)

  -- what is said of a fault is what the case says
  pub kept_by : (f : LogFault) (said : ContentView) → FaultSays f said → Keeps {T = T} d disk after event s new (Err f) → KeepsSaid d disk after event due s new said
  kept_by fault.Disk said says p = kept_fault said says p
  kept_by (fault.NotALog place) said says p = kept_not place said p
  kept_by fault.NoMemory said says p = kept_memory said p

module _ (h : HostView) (s : State) (is_host : h ≡ host_in s) (moment : ℕ) (command : CommandView) (answered : Answer) (is : answered ≡ step h moment command) where
  same_answer : answered ≡ step (host_in s) moment command
  same_answer = is ∙ ap (λ (x : HostView). step x moment command) is_host

  -- the reply of the step is the one that was made
  pub replied : (told : ContentView) → Shows (with_event h answered.event) answered.reply told → Replies (host_in s) moment command told
  replied told shows =
      subst (λ (x : HostView). Replies x moment command told) is_host (subst (λ (a : Answer). Shows (with_event h a.event) a.reply told) is shows)

  pub reply_is : (reply : Reply) → answered.reply ≡ reply → (step (host_in s) moment command).reply ≡ reply
  reply_is reply was = ap (λ (a : Answer). a.reply) (sym same_answer) ∙ was

  pub event_is : (event : Option EventView) → answered.event ≡ event → (step (host_in s) moment command).event ≡ event
  event_is event was = ap (λ (a : Answer). a.event) (sym same_answer) ∙ was

-- the step by what became of its event
pub stepped : {D : Type 0} (d : Ghosts D) (disk after : D) (event : EventView) (told : ContentView) (due : ContentView) (s new : State) (said : ContentView) (moment : ℕ) (command : CommandView)
    → (step (host_in s) moment command).event ≡ Some event → CanApply (host_in s) event → Replies (host_in s) moment command told → due ≡ told → KeepsSaid d disk after event due s new said
    → Steps d disk after moment command s new said
stepped d disk after event told due s new said moment command was can replies shown (KeepsSaid.kept count appended is says) = Steps.kept told event was can count appended replies is (says ∙ shown)
stepped d disk after event told due s new said moment command was can replies shown (KeepsSaid.failed count is says) = Steps.failed event was count is says
