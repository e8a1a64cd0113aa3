-- Who sent the bids and the withdrawals that are kept over a whole run of the host.
use Rattle.std.specs.Prelude.{◌≡◌, ◌⊎◌, ℕ, List, [], ◌∷◌, ◌++◌, Some, Ok, Contains}
use Rattle.body_fields.specs.declared.bodies.BidBody.{BidBody}
use Rattle.host_journal.specs.States.{State}
use Rattle.serving.specs.Exchanges.{Exchange}
use Rattle.requests.specs.Commands.{command_of}
use Rattle.sealed_core.specs.declared.commands.Ask.{Ask}
use Rattle.sealed_core.specs.declared.commands.Ask.TheVariants as asks
use Rattle.sealed_core.specs.Host.{BidKept, Closed, Created, EventView, InstanceView, Withdrawn, instance_at}
use Rattle.sealed_core.specs.Keys.{key_text}
use Rattle.sealed_core.specs.Runs.{host_of}
use Rattle.sealed_core.specs.Step.{To, form_of}
use Rattle.split_http.specs.declared.routes.Route.{Route}
use Rattle.split_http.specs.Places.{IsRouted}

-- the request asks this of that instance, under the key of that member
abbrev pub AsksUnderKey : {W : Type 0} → Exchange W → List ℕ → (id member : ℕ) → Ask → Type 0
AsksUnderKey x secret id member ask =
    (route : Route) × IsRouted x.head.verb x.head.path (Ok route) × (command_of route.place route.id x.head.key x.body ≡ To id (Some (key_text secret id member)) ask)

-- The request sent this event to the host of these events. A bid is the one in its body, with its turn, and a withdrawal has its turn; each was sent
-- under its member's key. Nothing is said here about a creation or a close.
abbrev pub IsSentBy : {W : Type 0} → Exchange W → List ℕ → List EventView → EventView → Type 0
IsSentBy x secret kept (Created now c) = Unit {0}
IsSentBy x secret kept (BidKept now id member turn given) =
    (i : InstanceView) × (body : BidBody) × (instance_at (host_of secret kept) id ≡ Some i) × AsksUnderKey x secret id member (asks.Bid (Ok body))
    × (body.turn ≡ Some turn) × (form_of i.creation.facts body ≡ Some given)
IsSentBy x secret kept (Closed now id) = Unit {0}
IsSentBy x secret kept (Withdrawn now id member turn) = (body : BidBody) × AsksUnderKey x secret id member (asks.Withdraw (Ok body)) × (body.turn ≡ Some turn)

-- a request of the run sent this event, which is kept after those before it
pub record ComesOfRun {W : Type 0} (run : List (Exchange W)) (new : State) (event : EventView) : Type 0 where
  pub request : Exchange W
  pub before : List EventView
  pub behind : List EventView
  pub among : Contains run request
  pub at : new.kept ≡ before ++ event ∷ behind
  pub sent : IsSentBy request new.secret before event

-- each event that is kept was so before the run, or a request of the run sent it
abbrev pub KeepsIntegrity : {W : Type 0} → List (Exchange W) → State → State → Type 0
KeepsIntegrity run first new = (event : EventView) → Contains new.kept event → Contains first.kept event ⊎ ComesOfRun run new event
