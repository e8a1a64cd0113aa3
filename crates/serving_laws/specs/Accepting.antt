-- Which events are kept over a whole run of the host, and what made each of them.
use Rattle.std.specs.Prelude.{◌≡◌, ◌⊎◌, ℕ, List, [], ◌∷◌, ◌++◌, Some, Ok, Contains}
use Rattle.host_journal.specs.States.{State}
use Rattle.serving.specs.Exchanges.{Exchange}
use Rattle.requests.specs.Commands.{command_of}
use Rattle.sealed_core.specs.Host.{EventView}
use Rattle.sealed_core.specs.Runs.{host_of}
use Rattle.sealed_core.specs.Step.{step}
use Rattle.split_http.specs.declared.routes.Route.{Route}
use Rattle.split_http.specs.Places.{IsRouted}

-- the request leads to a command that makes this event, in one step of the host of these events
abbrev pub Makes : {W : Type 0} → Exchange W → List ℕ → List EventView → EventView → Type 0
Makes x secret kept event =
    (route : Route) × IsRouted x.head.verb x.head.path (Ok route) × ((step (host_of secret kept) x.moment (command_of route.place route.id x.head.key x.body)).event ≡ Some event)

-- a request of the run makes this event, or it waited when the run began
abbrev pub IsMade : {W : Type 0} → List (Exchange W) → State → List ℕ → List EventView → EventView → Type 0
IsMade {W} run first secret kept event = ((x : Exchange W) × Contains run x × Makes x secret kept event) ⊎ (first.waiting ≡ Some event)

-- each of these events is made so, at the host of those before it
abbrev pub AreMade : {W : Type 0} → List (Exchange W) → State → List ℕ → List EventView → List EventView → Type 0
AreMade run first secret kept [] = Unit {0}
AreMade run first secret kept (event ∷ events) = IsMade run first secret kept event × AreMade run first secret (kept ++ event ∷ []) events

-- The later state has the secret and the events of the earlier one, and then others, each made in the run; so is the event that waits, if one does.
pub record Accepts {W : Type 0} (run : List (Exchange W)) (s new : State) : Type 0 where
  pub secret : new.secret ≡ s.secret
  pub more : List EventView
  pub kept : new.kept ≡ s.kept ++ more
  pub made : AreMade run s s.secret s.kept more
  pub waits : (event : EventView) → new.waiting ≡ Some event → IsMade run s new.secret new.kept event
