-- What each request in a whole run of the host may still change if it is refused, or if something fails.
use Rattle.std.specs.Prelude.{◌≡◌, ◌⊎◌, ℕ, [], ◌∷◌, ◌++◌, Some, Ok}
use Rattle.host_journal.specs.States.{State, host_in, ready_with, waits_with}
use Rattle.serving.specs.Exchanges.{Exchange}
use Rattle.reply_texts.specs.declared.refusals.ServiceRefusal.TheVariants as service
use Rattle.requests.specs.Commands.{command_of}
use Rattle.reply_texts.specs.Contents.{refusal_told}
use Rattle.sealed_core.specs.Host.{EventView}
use Rattle.sealed_core.specs.Sealed.{IsLateClose}
use Rattle.sealed_core.specs.Step.{step}
use Rattle.split_http.specs.declared.routes.Route.{Route}
use Rattle.split_http.specs.Places.{IsRouted}
use Rattle.serving_laws.specs.Accepting.{Makes}

-- the HTTP status of a success: 200, or 201 if an instance was made (RFC 9110, section 15.3)
abbrev pub IsSuccess : ℕ → Type 0
IsSuccess status = (status ≡ 200) ⊎ (status ≡ 201)

-- the request leads to a command whose event at this state is the Close, at the moment of the step, of the instance that it asks, which is
-- open past its deadline
abbrev pub MakesLateClose : {W : Type 0} → Exchange W → State → EventView → Type 0
MakesLateClose x s event =
    (route : Route) × IsRouted x.head.verb x.head.path (Ok route) × ((step (host_in s) x.moment (command_of route.place route.id x.head.key x.body)).event ≡ Some event)
    × IsLateClose (host_in s) x.moment (command_of route.place route.id x.head.key x.body) (Some event)

-- The request leaves the state at which it is answered as it is. Or the Close of a passed deadline is kept after the events of that state; or the disk
-- failed in the append of the request's own event, and the host waits with it and says so.
abbrev pub StaysBut : {D : Type 0} → Exchange (D × State) → State → Type 0
StaysBut x settled =
    (x.after.1 ≡ settled)
    ⊎ ((event : EventView)
    × ((MakesLateClose x settled event × (x.after.1 ≡ ready_with settled.secret (settled.kept ++ event ∷ [])))
    ⊎ (Makes x settled.secret settled.kept event × (x.after.1 ≡ waits_with settled event) × (x.due.said ≡ refusal_told service.StoreFault))))

-- a request that is refused, or in which something failed, changes nothing else
abbrev pub RefusesQuietly : {D : Type 0} → Exchange (D × State) → State → Type 0
RefusesQuietly x settled = (IsSuccess x.due.said.status → ⊥) → StaysBut x settled
