-- Whose command an event comes from, and what it keeps of the command.
use Rattle.std.specs.Prelude.{◌≡◌, ℕ, ◌≤◌, ◌⊎◌, true, List, Some, Ok}
use Rattle.sealed_core.specs.declared.commands.Ask.{Ask}
use Rattle.sealed_core.specs.declared.commands.Ask.TheVariants as asks
use Rattle.body_fields.specs.declared.bodies.BidBody.{BidBody}
use Rattle.sealed_core.specs.Host.{InstanceView, HostView, EventView, Created, BidKept, Closed, Withdrawn, instance_at}
use Rattle.sealed_core.specs.Step.{CommandView, Create, To, form_of, holder, may_ask}

-- the command asks this of the instance with this id, which exists, under the key of the caller with this number, who may ask it
pub record IsAskedBy (h : HostView) (command : CommandView) (id m : ℕ) (i : InstanceView) (ask : Ask) : Type 0 where
  pub key : List ℕ
  pub asked : command ≡ To id (Some key) ask
  pub there : instance_at h id ≡ Some i
  pub held : holder h.secret id i key ≡ Some m
  pub may : may_ask m ask ≡ true

-- a creation is the command's; a bid and its turn are those of the body that the member sent, and so is the turn of a withdrawal; a
-- close is asked for by the organiser, or comes from whatever a caller asks at or past the deadline
abbrev pub ComesOf : HostView → CommandView → EventView → Type 0
ComesOf h command (Created now c) = command ≡ Create (Ok c)
ComesOf h command (BidKept now id m turn given) = (i : InstanceView) × (body : BidBody) × IsAskedBy h command id m i (asks.Bid (Ok body)) × (body.turn ≡ Some turn) × (form_of i.creation.facts body ≡ Some given)
ComesOf h command (Closed now id) = (i : InstanceView) × (m : ℕ) × (ask : Ask) × IsAskedBy h command id m i ask × ((i.creation.deadline ≤ now) ⊎ (ask ≡ asks.Close))
ComesOf h command (Withdrawn now id m turn) = (i : InstanceView) × (body : BidBody) × IsAskedBy h command id m i (asks.Withdraw (Ok body)) × (body.turn ≡ Some turn)
