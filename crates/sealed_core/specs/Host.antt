-- A host as contracts see it, with texts as lists of bytes; which events may come, and what they do.
use Rattle.std.specs.Prelude.{◌≡◌, ◌≢◌, ℕ, zero, suc, ◌+◌, ◌-◌, ◌<◌, ◌≤◌, ◌⊎◌, ◌==◌, Bool, true, false, List, [], ◌∷◌, ◌++◌, length, replicate, set, All, Option, Some, None, IfSome, IsSome, IsSomeAnd, slice_get, slice_index, slice_index_or, if◌then◌else◌}
use Rattle.bid_rules.specs.declared.bids.Bid.{Bid}
use Rattle.bid_rules.specs.Facts.{IsCheckedBid}
use Rattle.sealed_core.specs.declared.limits.TheConstants.{MOST_INSTANCES, MOST_TURNS}
pub use Rattle.body_fields.specs.Creations.{CreationView, IsCheckedCreation, creation_view, item_count, text}
pub use Rattle.body_fields.specs.Rules.{IsName, IsTag}
use Rattle.sealed_core.specs.declared.host.Instance.{Instance}
use Rattle.sealed_core.specs.declared.events.Event.{Event}
use Rattle.sealed_core.specs.declared.events.Event.TheVariants as event

-- an instance: for each member the kept turn, which is 0 at first, and the kept bid or none
pub record InstanceView : Type 0 where
  pub creation : CreationView
  pub turns : List ℕ
  pub bids : List (Option Bid)
  pub closed : Bool

-- a host: its secret, the greatest moment of a kept event, and the instances in order of id
pub record HostView : Type 0 where
  pub secret : List ℕ
  pub moment : ℕ
  pub instances : List InstanceView

-- a host and its spare places, which "unchanged" never refers to
pub record Holding : Type 0 where
  pub content : HostView
  pub spare : ℕ

-- there are more spare places than further instances that there may be
abbrev pub HasRoom : Holding → Type 0
HasRoom h = (MOST_INSTANCES - length h.content.instances) < h.spare

-- an event: a creation, a kept bid, a close or a withdrawal, each with its moment
pub data EventView : Type 0 where
  Created : (moment : ℕ) → CreationView → EventView
  BidKept : (moment id member turn : ℕ) → Bid → EventView
  Closed : (moment id : ℕ) → EventView
  Withdrawn : (moment id member turn : ℕ) → EventView

-- what an instance of the code says
abbrev pub instance_view : Instance → InstanceView
instance_view i = record { creation = creation_view i.creation; turns = i.turns.items; bids = i.bids.items; closed = i.closed }

-- what an event of the code says
abbrev pub event_view : Event → EventView
event_view (event.Create moment creation) = Created moment (creation_view creation)
event_view (event.Bid moment id member turn bid) = BidKept moment id member turn bid
event_view (event.Close moment id) = Closed moment id
event_view (event.Withdraw moment id member turn) = Withdrawn moment id member turn

-- what holds of each instance of a host
pub record IsCheckedInstance (i : InstanceView) : Type 0 where
  pub creation : IsCheckedCreation i.creation
  pub turns : length i.turns ≡ length i.creation.members
  pub bids : length i.bids ≡ length i.creation.members
  pub used : All (λ turn. turn ≤ MOST_TURNS) i.turns
  pub checked : All (λ bid. IfSome bid (IsCheckedBid i.creation.facts)) i.bids

-- what holds of all instances of a host
pub record AreCheckedInstances (instances : List InstanceView) : Type 0 where
  pub each : All IsCheckedInstance instances
  pub few : length instances ≤ MOST_INSTANCES

-- the instance with this id: ids count from 1
abbrev pub instance_at : HostView → ℕ → Option InstanceView
instance_at h id = if id == 0 then None else slice_get h.instances (id - 1)

-- the kept turn and bid of a member; the organiser, number 0, has none
abbrev pub kept_turn : InstanceView → ℕ → ℕ
kept_turn i m = if m == 0 then 0 else slice_index i.turns (m - 1)

-- the bid of a member, from 1, that is kept; the organiser, 0, has none
abbrev pub kept_bid : InstanceView → ℕ → Option Bid
kept_bid i m = if m == 0 then None else slice_index_or i.bids (m - 1) None

-- the greatest moment of a kept event after this one
abbrev pub moment_of : EventView → ℕ
moment_of (Created moment creation) = moment
moment_of (BidKept moment id member turn bid) = moment
moment_of (Closed moment id) = moment
moment_of (Withdrawn moment id member turn) = moment

-- the instance is open and before its deadline, and this is the member's next turn
pub record IsNextTurn (now : ℕ) (i : InstanceView) (m turn : ℕ) : Type 0 where
  pub open_ : i.closed ≡ false
  pub early : now < i.creation.deadline
  pub least : 1 ≤ m
  pub most : m ≤ length i.creation.members
  pub next : turn ≡ kept_turn i m + 1
  pub used : turn ≤ MOST_TURNS

-- the event's own condition, whatever its moment: what it is to change is there, is open, and takes it
abbrev pub IsAllowed : HostView → EventView → Type 0
IsAllowed h (Created now c) = (length h.instances < MOST_INSTANCES) × IsCheckedCreation c × All (λ i. i.creation.tag ≢ c.tag) h.instances
IsAllowed h (BidKept now id m turn bid) = IsSomeAnd (instance_at h id) (λ i. IsNextTurn now i m turn × IsCheckedBid i.creation.facts bid)
IsAllowed h (Closed now id) = IsSomeAnd (instance_at h id) (λ i. (i.closed ≡ false) × ((i.creation.deadline ≤ now) ⊎ All (λ bid. IsSome bid) i.bids))
IsAllowed h (Withdrawn now id m turn) = IsSomeAnd (instance_at h id) (λ i. IsNextTurn now i m turn × IsSome (kept_bid i m))

-- the event may be applied: its moment isn't below the greatest kept one, and its own condition holds
abbrev pub CanApply : HostView → EventView → Type 0
CanApply h e = (h.moment ≤ moment_of e) × IsAllowed h e

-- a new instance: nobody has bid
abbrev pub new_instance : CreationView → InstanceView
new_instance c = record { creation = c; turns = replicate (length c.members) 0; bids = replicate (length c.members) None; closed = false }

-- the member's kept turn and bid are these
abbrev pub with_turn : ℕ → ℕ → Option Bid → InstanceView → InstanceView
with_turn m turn bid i = record { creation = i.creation; turns = set i.turns (m - 1) turn; bids = set i.bids (m - 1) bid; closed = i.closed }

-- the same instance, closed
abbrev pub as_closed : InstanceView → InstanceView
as_closed i = record { creation = i.creation; turns = i.turns; bids = i.bids; closed = true }

-- the list with the element at this place, from 0, changed
abbrev pub change_at : {A : Type 0} → (A → A) → List A → ℕ → List A
change_at f [] place = []
change_at f (x ∷ xs) zero = f x ∷ xs
change_at f (x ∷ xs) (suc place) = x ∷ change_at f xs place

-- the instances with the one that has this id changed
abbrev pub change : (InstanceView → InstanceView) → List InstanceView → ℕ → List InstanceView
change f instances id = change_at f instances (id - 1)

-- the instances after an event
abbrev pub instances_after : List InstanceView → EventView → List InstanceView
instances_after instances (Created now c) = instances ++ new_instance c ∷ []
instances_after instances (BidKept now id m turn bid) = change (with_turn m turn (Some bid)) instances id
instances_after instances (Closed now id) = change as_closed instances id
instances_after instances (Withdrawn now id m turn) = change (with_turn m turn None) instances id

-- the host after an event
abbrev pub apply : HostView → EventView → HostView
apply h e = record { secret = h.secret; moment = moment_of e; instances = instances_after h.instances e }
