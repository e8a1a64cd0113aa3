-- The cases of a request that was read whole, in the order in which they are tested. Memory may run out only for its body, and for a
-- publication. Each says what becomes of the state, what is said, which calls of the disk failed, and what calls were made of an honest one.
use Rattle.std.specs.Prelude.{◌≡◌, ℕ, true, List, ◌∷◌, [], ◌++◌, Option, Some, None, Ok, Err}
use Rattle.split_base.specs.declared.disk.Disk.{Ghosts}
use Rattle.split_base.specs.Disk.{Each, Tears}
use Rattle.split_base.specs.Faults.{counted}
use Rattle.gate_log.specs.declared.limits.TheConstants.{VERSION_GATE}
use Rattle.host_journal.specs.Calls.{IsAppended, IsOpenedAs}
use Rattle.host_journal.specs.Journal.{IsFirstFault}
use Rattle.host_journal.specs.States.{Passes, State, host_in, ready_with, waits_with}
use Rattle.reply_texts.specs.Contents.{ContentView, memory_told, method_told, refusal_told}
use Rattle.reply_texts.specs.declared.refusals.ServiceRefusal.TheVariants as service
use Rattle.sealed_core.specs.declared.commands.What.{What}
use Rattle.sealed_core.specs.declared.replies.Reply.TheVariants as reply
use Rattle.sealed_core.specs.Host.{CanApply, EventView}
use Rattle.sealed_core.specs.Runs.{CanApplyAll}
use Rattle.sealed_core.specs.Sealed.{empty}
use Rattle.sealed_core.specs.Step.{CommandView, step}
use Rattle.split_http.specs.declared.head.Head.{Head}
use Rattle.split_http.specs.declared.replies.Allow.{Allow}
use Rattle.split_http.specs.declared.routes.Route.{Route}
use Rattle.split_http.specs.declared.routes.RouteFault.TheVariants.{NoRoute, Method}
use Rattle.split_http.specs.Places.{IsRouted}
use Rattle.requests.specs.Commands.{command_of, reads_body}
use Rattle.requests.specs.Replies.{Replies}

-- Before the step a host that waits opens its file again, and a ready one does nothing. A result is the reply to a request that goes no further.
pub data Settles {D : Type 0} (d : Ghosts D) (disk after : D) (s new : State) (result : Option ContentView) : Type 0 where
  ready : s.waiting ≡ None → after ≡ disk → new ≡ s → result ≡ None → Settles d disk after s new result
  -- a call of the disk failed in the reopening, and it isn't tried again
  store_fault : (event : EventView) → s.waiting ≡ Some event → d.faults after ≡ counted (d.faults disk) → (d.is_honest disk → Each (d.images after) (Tears (d.images disk) VERSION_GATE 1))
      → new ≡ s → result ≡ Some (refusal_told service.StoreFault) → Settles d disk after s new result
  -- the file isn't a journal, and the place of its first fault is given: never on an honest disk
  damaged : (event : EventView) (place : ℕ) → s.waiting ≡ Some event → d.faults after ≡ d.faults disk → (d.tells disk → IsFirstFault place (d.seen disk)) → (d.is_honest disk → ⊥)
      → new ≡ s → result ≡ Some (refusal_told (service.StoreDamaged place)) → Settles d disk after s new result
  -- the file was opened, and the state is that of events that may be applied in turn: where the disk reveals its bytes those that a read gave, and
  -- on an honest one those kept, with the one more or without it
  opened : (event : EventView) (secret : List ℕ) (kept : List EventView) → s.waiting ≡ Some event → d.faults after ≡ d.faults disk → IsOpenedAs d disk after s event secret kept
      → CanApplyAll (empty secret) kept → new ≡ ready_with secret kept → result ≡ None → Settles d disk after s new result

-- One step on a host that is ready.
pub data Steps {D : Type 0} (d : Ghosts D) (disk after : D) (moment : ℕ) (command : CommandView) (s new : State) (said : ContentView) : Type 0 where
  no_event : (told : ContentView) → (step (host_in s) moment command).event ≡ None → after ≡ disk
      → Replies (host_in s) moment command told → new ≡ s → said ≡ told → Steps d disk after moment command s new said
  -- the event, which may be applied, was kept before the reply, by the calls of one append
  kept : (told : ContentView) (event : EventView) → (step (host_in s) moment command).event ≡ Some event → CanApply (host_in s) event → d.faults after ≡ d.faults disk
      → (d.is_honest disk → IsAppended d disk after s.secret (s.kept ++ event ∷ []))
      → Replies (host_in s) moment command told → new ≡ ready_with s.secret (s.kept ++ event ∷ []) → said ≡ told → Steps d disk after moment command s new said
  -- a call of the disk failed in the append, and the event waits
  failed : (event : EventView) → (step (host_in s) moment command).event ≡ Some event → d.faults after ≡ counted (d.faults disk)
      → new ≡ waits_with s event → said ≡ refusal_told service.StoreFault → Steps d disk after moment command s new said
  -- there was no memory for a publication
  memory : (id : ℕ) (asked : What) → (step (host_in s) moment command).reply ≡ reply.Publish id asked → after ≡ disk → new ≡ s → said ≡ memory_told
      → Steps d disk after moment command s new said

-- A request that was read whole, at a moment: its path or method is refused, or there is no memory for its body, or it ends with the
-- reopening, or the step comes after that.
pub data Responds {D : Type 0} (d : Ghosts D) (disk after : D) (head : Head) (body : List ℕ) (moment : ℕ) (s new : State) (said : ContentView) : Type 0 where
  no_route : IsRouted head.verb head.path (Err NoRoute) → after ≡ disk → new ≡ s → said ≡ refusal_told service.NoRoute → Responds d disk after head body moment s new said
  method : (allow : Allow) → IsRouted head.verb head.path (Err (Method allow)) → after ≡ disk → new ≡ s → said ≡ method_told allow → Responds d disk after head body moment s new said
  at_once : (route : Route) → IsRouted head.verb head.path (Ok route) → Settles d disk after s new (Some said) → Responds d disk after head body moment s new said
  -- on an honest disk a crash in the reopening leaves a file of the state before or of the settled one, and one in the step a file of the
  -- settled one or of the new one
  stepped : (route : Route) (between : D) (settled : State) → IsRouted head.verb head.path (Ok route)
      → Settles d disk between s settled None → Passes d disk s between settled
      → Steps d between after moment (command_of route.place route.id head.key body) settled new said → Passes d between settled after new → Responds d disk after head body moment s new said
  -- there was no memory for its body, of a creation, a bid or a withdrawal
  memory : (route : Route) → IsRouted head.verb head.path (Ok route) → reads_body route.place ≡ true → after ≡ disk → new ≡ s → said ≡ memory_told
      → Responds d disk after head body moment s new said
