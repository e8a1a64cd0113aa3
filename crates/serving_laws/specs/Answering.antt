-- How each request in a whole run of the host is answered, and in which state it leaves the host, whatever the disk.
use Rattle.std.specs.Prelude.{◌≡◌, ℕ, None, Some, Ok, Err}
use Rattle.host_journal.specs.Journal.{IsFirstFault}
use Rattle.host_journal.specs.States.{State, waits_with}
use Rattle.serving.specs.Exchanges.{Exchange}
use Rattle.reply_texts.specs.declared.refusals.ServiceRefusal.TheVariants as service
use Rattle.reply_texts.specs.Contents.{memory_told, method_told, refusal_told}
use Rattle.sealed_core.specs.Host.{EventView}
use Rattle.sealed_core.specs.Sealed.{Asked}
use Rattle.serving_laws.specs.Accepting.{Makes}
use Rattle.serving_laws.specs.Heard.{IsStepAt}
use Rattle.serving_laws.specs.Sealing.{MayLackMemory}
use Rattle.split_base.specs.declared.disk.Disk.{Ghosts}
use Rattle.split_base.specs.Faults.{HasRisen}
use Rattle.split_http.specs.declared.replies.Allow.{Allow}
use Rattle.split_http.specs.declared.routes.Route.{Route}
use Rattle.split_http.specs.declared.routes.RouteFault.TheVariants.{NoRoute, Method}
use Rattle.split_http.specs.Places.{IsRouted}

-- Its path or method is refused. Or it goes by the machine's step at this state, at which no event waits: it has the reply of that step, whose event, if it
-- makes one, was kept, and none waits then. Or memory ran out, where it may. Or a call of the disk failed, and the reply says so: in opening the file of a
-- host that waits, which waits on; or in the append of the step's event, which waits. Or the file of a host that waits isn't a journal, which never happens
-- on an honest disk, and the place of its first fault is given. Where the request has no step that was kept, it leaves the events of the state as they are.
pub data HasAnswer {D : Type 0} (d : Ghosts D) (x : Exchange (D × State)) (settled : State) : Type 0 where
  no_route : IsRouted x.head.verb x.head.path (Err NoRoute) → x.after.1 ≡ settled → x.due.said ≡ refusal_told service.NoRoute → HasAnswer d x settled
  method : (allow : Allow) → IsRouted x.head.verb x.head.path (Err (Method allow)) → x.after.1 ≡ settled → x.due.said ≡ method_told allow → HasAnswer d x settled
  answered : (a : Asked) → settled.waiting ≡ None → IsStepAt x settled a → x.after.1.waiting ≡ None → HasAnswer d x settled
  memory : MayLackMemory x settled → x.after.1 ≡ settled → x.due.said ≡ memory_told → HasAnswer d x settled
  not_opened : (route : Route) (event : EventView) → IsRouted x.head.verb x.head.path (Ok route) → settled.waiting ≡ Some event → HasRisen (d.faults x.before.0) (d.faults x.after.0) → x.after.1 ≡ settled
      → x.due.said ≡ refusal_told service.StoreFault → HasAnswer d x settled
  not_kept : (event : EventView) → settled.waiting ≡ None → Makes x settled.secret settled.kept event → HasRisen (d.faults x.before.0) (d.faults x.after.0)
      → x.after.1 ≡ waits_with settled event → x.due.said ≡ refusal_told service.StoreFault → HasAnswer d x settled
  damaged : (event : EventView) (place : ℕ) → x.before.1.waiting ≡ Some event → (d.tells x.before.0 → IsFirstFault place (d.seen x.before.0))
      → (d.is_honest x.before.0 → ⊥) → x.after.1 ≡ settled → x.due.said ≡ refusal_told (service.StoreDamaged place) → HasAnswer d x settled
