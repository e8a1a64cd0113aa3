-- Definitions for private functions: how a request's event is kept, and what the reply says if the journal has failed or the request leads nowhere. No public contract names them.
use Rattle.std.specs.Prelude.{◌≡◌, ℕ, [], ◌∷◌, ◌++◌, Some, None}
use Rattle.gate_log.specs.declared.fault.LogFault.{LogFault}
use Rattle.gate_log.specs.declared.fault.LogFault.TheVariants as fault
use Rattle.split_base.specs.declared.disk.Disk.{Ghosts}
use Rattle.split_base.specs.Faults.{counted}
use Rattle.host_journal.specs.Calls.{IsAppended}
use Rattle.host_journal.specs.States.{Passes, State, ready_with, waits_with}
use Rattle.reply_texts.specs.Contents.{ContentView, memory_told, method_told, refusal_told}
use Rattle.reply_texts.specs.declared.refusals.ServiceRefusal.TheVariants as service
use Rattle.sealed_core.specs.Host.{EventView}
use Rattle.split_http.specs.declared.routes.RouteFault.{RouteFault}
use Rattle.split_http.specs.declared.routes.RouteFault.TheVariants.{NoRoute, Method}
use Rattle.sealed_core.specs.Step.{CommandView}
use Rattle.requests.specs.Cases.{Settles, Steps}

-- the event was kept and this is said; or the disk failed in the append and the host waits
pub data KeepsSaid {D : Type 0} (d : Ghosts D) (disk after : D) (event : EventView) (due : ContentView) (s new : State) (said : ContentView) : Type 0 where
  kept : d.faults after ≡ d.faults disk → (d.is_honest disk → IsAppended d disk after s.secret (s.kept ++ event ∷ []))
      → new ≡ ready_with s.secret (s.kept ++ event ∷ []) → said ≡ due → KeepsSaid d disk after event due s new said
  failed : d.faults after ≡ counted (d.faults disk) → new ≡ waits_with s event → said ≡ refusal_told service.StoreFault → KeepsSaid d disk after event due s new said

-- what is said once the journal has failed
abbrev pub FaultSays : LogFault → ContentView → Type 0
FaultSays fault.Disk said = said ≡ refusal_told service.StoreFault
FaultSays (fault.NotALog place) said = said ≡ refusal_told (service.StoreDamaged place)
FaultSays fault.NoMemory said = said ≡ memory_told

-- what is said if a request leads nowhere
abbrev pub unrouted_said : RouteFault → ContentView
unrouted_said NoRoute = refusal_told service.NoRoute
unrouted_said (Method allow) = method_told allow

-- a command is answered: the request ends with the reopening, or the step comes after it
pub data Performs {D : Type 0} (d : Ghosts D) (disk after : D) (moment : ℕ) (command : CommandView) (s new : State) (said : ContentView) : Type 0 where
  at_once : Settles d disk after s new (Some said) → Performs d disk after moment command s new said
  stepped : (between : D) (settled : State) → Settles d disk between s settled None → Passes d disk s between settled
      → Steps d between after moment command settled new said → Passes d between settled after new → Performs d disk after moment command s new said
