-- A host as the caller of one instance may see it: apart from their own bid there, each bid on any instance shows only that it is there.
use Rattle.std.specs.Prelude.{◌≡◌, ℕ, zero, suc, ◌+◌, ◌==◌, List, [], ◌∷◌, map, if◌then◌else◌, Option, None, Some}
use Rattle.bid_rules.specs.declared.bids.Bid.{Bid}
use Rattle.bid_rules.specs.declared.bids.Bid.TheVariants.{Place}
use Rattle.sealed_core.specs.Host.{HostView, InstanceView}
use Rattle.sealed_core.specs.Sealed.{Caller}

-- a bid that shows only that it is there: the same one stands in for all bids
abbrev pub hidden_bid : Option Bid → Option Bid
hidden_bid None = None
hidden_bid (Some given) = Some (Place 0)

-- these bids, all hidden except the one at this place
abbrev pub but_one : ℕ → List (Option Bid) → List (Option Bid)
but_one k [] = []
but_one zero (bid ∷ bids) = bid ∷ map hidden_bid bids
but_one (suc k) (bid ∷ bids) = hidden_bid bid ∷ but_one k bids

-- the bids of an instance, all hidden except the caller's own
abbrev pub veiled_bids : Caller → List (Option Bid) → List (Option Bid)
veiled_bids None bids = map hidden_bid bids
veiled_bids (Some zero) bids = map hidden_bid bids
veiled_bids (Some (suc k)) bids = but_one k bids

-- an instance as its caller may see it
abbrev pub as_seen_by : Caller → InstanceView → InstanceView
as_seen_by c i = record { creation = i.creation; turns = i.turns; bids = veiled_bids c i.bids; closed = i.closed }

-- whose bid the caller of this instance sees on an instance: their own if it is the same instance, and otherwise nobody's, whatever their
-- number is there
abbrev pub shown_in : ℕ → Caller → ℕ → Caller
shown_in id caller other = if other == id then caller else None

-- these instances, with ids from `first` on, as the caller of the instance with this id may see them
abbrev pub veiled_from : ℕ → ℕ → Caller → List InstanceView → List InstanceView
veiled_from first id caller [] = []
veiled_from first id caller (i ∷ instances) = as_seen_by (shown_in id caller first) i ∷ veiled_from (first + 1) id caller instances

-- a host as the caller of the instance with this id may see it
abbrev pub veil : ℕ → Caller → HostView → HostView
veil id caller h = record { secret = h.secret; moment = h.moment; instances = veiled_from 1 id caller h.instances }

-- two hosts differ only in what people other than the caller have bid on this instance, and in what anyone has bid on the others
abbrev pub LookAlike : ℕ → Caller → HostView → HostView → Type 0
LookAlike id caller g h = veil id caller g ≡ veil id caller h
