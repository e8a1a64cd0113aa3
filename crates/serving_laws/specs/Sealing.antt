-- What stays sealed in a whole run of the host: what a caller is told of an instance that isn't closed.
use Rattle.std.specs.Prelude.{◌≡◌, ◌⊎◌, ℕ, ◌≤◌, max, true, false, List, Option, Some, IsSomeAnd, Ok, Err}
use Rattle.split_base.specs.declared.disk.Disk.{Ghosts}
use Rattle.host_journal.specs.Journal.{IsFirstFault}
use Rattle.host_journal.specs.States.{State, host_in}
use Rattle.serving.specs.Exchanges.{Exchange}
use Rattle.reply_texts.specs.Contents.{ContentView, memory_told, method_told, refusal_told}
use Rattle.reply_texts.specs.declared.refusals.ServiceRefusal.TheVariants as service
use Rattle.reply_texts.specs.Sealing.{Told, sealed_told}
use Rattle.requests.specs.Commands.{command_of, reads_body}
use Rattle.requests.specs.Replies.{Replies}
use Rattle.requests.specs.Sent.{status_and_text}
use Rattle.sealed_core.specs.declared.commands.Ask.{Ask}
use Rattle.sealed_core.specs.declared.commands.What.{What}
use Rattle.sealed_core.specs.declared.replies.Reply.TheVariants as reply
use Rattle.sealed_core.specs.Host.{EventView, HostView, InstanceView, instance_at}
use Rattle.sealed_core.specs.Sealed.{caller_number, host_after, is_closed, view}
use Rattle.sealed_core.specs.Step.{CommandView, Create, To, step}
use Rattle.split_http.specs.declared.replies.Allow.{Allow}
use Rattle.split_http.specs.declared.routes.Route.{Route}
use Rattle.split_http.specs.declared.routes.RouteFault.TheVariants.{NoRoute, Method}
use Rattle.split_http.specs.Places.{IsRouted}
use Rattle.serving_laws.specs.Moving.{IsReadyFor}

-- the request asks this of that instance, under this key or none, of a host that is ready, and has the reply of the machine's step
pub record AsksOf {D : Type 0} (x : Exchange (D × State)) (id : ℕ) (key : Option (List ℕ)) (ask : Ask) (h : HostView) : Type 0 where
  pub route : Route
  pub settled : State
  pub told : ContentView
  pub routed : IsRouted x.head.verb x.head.path (Ok route)
  pub command : command_of route.place route.id x.head.key x.body ≡ To id key ask
  pub ready : IsReadyFor x.before.1 settled
  pub host : h ≡ host_in settled
  pub replies : Replies h x.moment (To id key ask) told
  pub said : x.due.said ≡ told

-- the body of the request is read: it is a creation, a bid or a withdrawal
abbrev pub ReadsBody : {W : Type 0} → Exchange W → Type 0
ReadsBody x = (route : Route) × IsRouted x.head.verb x.head.path (Ok route) × (reads_body route.place ≡ true)

-- the instance is closed, or its deadline has passed by this moment
abbrev pub IsShutBy : ℕ → InstanceView → Type 0
IsShutBy now i = (i.closed ≡ true) ⊎ (i.creation.deadline ≤ now)

-- at this state the request is due what is published of an instance, which is closed or past its deadline
pub record IsDueResult {W : Type 0} (x : Exchange W) (s : State) : Type 0 where
  pub route : Route
  pub id : ℕ
  pub asked : What
  pub routed : IsRouted x.head.verb x.head.path (Ok route)
  pub published : (step (host_in s) x.moment (command_of route.place route.id x.head.key x.body)).reply ≡ reply.Publish id asked
  pub shut : IsSomeAnd (instance_at (host_in s) id) (IsShutBy (max x.moment (host_in s).moment))

-- memory may run out for such a request after it was read from its link, and for no other
abbrev pub MayLackMemory : {W : Type 0} → Exchange W → State → Type 0
MayLackMemory x s = ReadsBody x ⊎ IsDueResult x s

-- The reply isn't that of a step: the path or the method of the request is refused; the store failed; or memory ran out, for a body that is read or for the
-- result of an instance that is closed or past its deadline.
pub data TellsNoStep {D : Type 0} (x : Exchange (D × State)) (s : State) : Type 0 where
  no_route : IsRouted x.head.verb x.head.path (Err NoRoute) → x.due.said ≡ refusal_told service.NoRoute → TellsNoStep x s
  method : (allow : Allow) → IsRouted x.head.verb x.head.path (Err (Method allow)) → x.due.said ≡ method_told allow → TellsNoStep x s
  store_fault : x.due.said ≡ refusal_told service.StoreFault → TellsNoStep x s
  memory : MayLackMemory x s → x.due.said ≡ memory_told → TellsNoStep x s

-- The reply says of the file of a host that waits that it isn't a journal, with a place. This never happens on an honest disk, and if the disk reveals
-- its bytes, the place is that of the file's first fault.
pub record TellsDamage {D : Type 0} (d : Ghosts D) (x : Exchange (D × State)) : Type 0 where
  pub event : EventView
  pub place : ℕ
  pub waits : x.before.1.waiting ≡ Some event
  pub first : d.tells x.before.0 → IsFirstFault place (d.seen x.before.0)
  pub never : d.is_honest x.before.0 → ⊥
  pub said : x.due.said ≡ refusal_told (service.StoreDamaged place)

-- if the command asks something of an instance that isn't closed after it, the caller gets the status and the text that follow from what they may
-- know of it, the command and the moment
abbrev pub IsSealedTold : HostView → ℕ → CommandView → Told → Type 0
IsSealedTold h t (Create body) told = Unit {0}
IsSealedTold h t (To id key ask) told = is_closed (host_after h t (To id key ask)) id ≡ false → told ≡ sealed_told (view h id (caller_number h id key)) t id key ask

-- The reply isn't that of a step; or it says that the host's file isn't a journal; or, about an instance that isn't closed, it says no more than what its
-- caller may know. So the reply to every status, own bid and close on an instance that isn't closed is of the last kind, or reports a fault of the store.
pub data IsSealedReply {D : Type 0} (d : Ghosts D) (x : Exchange (D × State)) (settled : State) : Type 0 where
  nothing : TellsNoStep x settled → IsSealedReply d x settled
  damaged : TellsDamage d x → IsSealedReply d x settled
  told : (route : Route) → IsRouted x.head.verb x.head.path (Ok route)
      → IsSealedTold (host_in settled) x.moment (command_of route.place route.id x.head.key x.body) (status_and_text x.due.said) → IsSealedReply d x settled
