-- What a caller may learn of an instance before it is closed, the reply that follows only from that, and the law over runs.
use Rattle.std.specs.Prelude.{◌≡◌, ◌≢◌, ℕ, max, Bool, true, false, not, List, [], ◌∷◌, map, if◌then◌else◌, is_some, Option, None, Some, IsSomeAnd, ◌⊎◌, ◌&&◌, ◌==◌}
use Rattle.std.specs.Option.{option_map}
use Rattle.bid_rules.specs.declared.bids.Bid.{Bid}
use Rattle.bid_rules.specs.declared.bids.Facts.{Facts}
use Rattle.sealed_core.specs.declared.commands.Ask.{Ask}
use Rattle.sealed_core.specs.declared.replies.Refusal.TheVariants as refusal
use Rattle.sealed_core.specs.declared.replies.Reply.{Reply}
use Rattle.sealed_core.specs.declared.replies.Reply.TheVariants as reply
use Rattle.sealed_core.specs.Host.{InstanceView, HostView, EventView, BidKept, instance_at, kept_turn, kept_bid, apply, Closed}
use Rattle.sealed_core.specs.Step.{Answer, CommandView, Create, To, Standing, holder, is_over, may_ask, answer_ask, step}

-- what everyone may know of an instance: its creation without the tag, whether it is closed, and which members have a bid
pub record PublicFacts : Type 0 where
  pub title : List ℕ
  pub members : List (List ℕ)
  pub items : List (List ℕ)
  pub facts : Facts
  pub deadline : ℕ
  pub closed : Bool
  pub have_bid : List Bool

-- what everybody in the round may know of it
abbrev pub public_of : InstanceView → PublicFacts
public_of i = record {
  title = i.creation.title;
  members = i.creation.members;
  items = i.creation.items;
  facts = i.creation.facts;
  deadline = i.creation.deadline;
  closed = i.closed;
  have_bid = map is_some i.bids;
}

-- a caller of an instance: a member, 0 for the organiser, or none if the command has no key or one that belongs to nobody
abbrev pub Caller : Type 0
Caller = Option ℕ

-- who shows this key at an instance that was found: a member from 1, the organiser 0, or nobody
abbrev pub caller_with : List ℕ → ℕ → Option InstanceView → Option (List ℕ) → Caller
caller_with secret id None key = None
caller_with secret id (Some i) None = None
caller_with secret id (Some i) (Some key) = holder secret id i key

-- who shows this key at the instance of a host
abbrev pub caller_number : HostView → ℕ → Option (List ℕ) → Caller
caller_number h id key = caller_with h.secret id (instance_at h id) key

-- what a caller may know: who they are, the public facts if the instance is there, the greatest moment of a kept event, and their own kept turn and
-- bid
pub record View : Type 0 where
  pub caller : Caller
  pub public : Option PublicFacts
  pub moment : ℕ
  pub turn : ℕ
  pub bid : Option Bid

-- the caller's own kept turn, or 0 if there is none
abbrev pub own_turn : Option InstanceView → Caller → ℕ
own_turn None caller = 0
own_turn (Some i) None = 0
own_turn (Some i) (Some m) = kept_turn i m

-- the caller's own kept bid
abbrev pub own_bid : Option InstanceView → Caller → Option Bid
own_bid None caller = None
own_bid (Some i) None = None
own_bid (Some i) (Some m) = kept_bid i m

-- what a caller may know of an instance that was found, at a moment
abbrev pub view_of : ℕ → Option InstanceView → Caller → View
view_of moment found caller = record {
  caller = caller;
  public = option_map public_of found;
  moment = moment;
  turn = own_turn found caller;
  bid = own_bid found caller;
}

-- what a caller may know of an instance of a host
abbrev pub view : HostView → ℕ → Caller → View
view h id caller = view_of h.moment (instance_at h id) caller

-- the standing of the caller that the view shows
abbrev pub standing_in : PublicFacts → View → Standing
standing_in public v = record { facts = public.facts; closed = public.closed; have_bid = public.have_bid; turn = v.turn; bid = v.bid }

-- the reply on an instance that isn't closed after the step, written only from the view
abbrev pub reply_in : ℕ → ℕ → Ask → View → PublicFacts → ℕ → Reply
reply_in now id ask v public m = if not (may_ask m ask) then reply.Refused refusal.Role else (answer_ask now id m (standing_in public v) ask).reply

-- the reply from the view, to a holder of the key or to nobody
abbrev pub reply_by : ℕ → ℕ → Ask → View → PublicFacts → Caller → Reply
reply_by now id ask v public None = reply.Refused refusal.WrongKey
reply_by now id ask v public (Some m) = reply_in now id ask v public m

-- the reply from the view, with a key or without one
abbrev pub reply_under : ℕ → ℕ → Ask → View → PublicFacts → Option (List ℕ) → Reply
reply_under now id ask v public None = reply.Refused refusal.NoKey
reply_under now id ask v public (Some key) = reply_by now id ask v public v.caller

-- the reply from the view, on an instance or on none
abbrev pub reply_on : ℕ → ℕ → Ask → View → Option (List ℕ) → Option PublicFacts → Reply
reply_on now id ask v key None = reply.Refused refusal.NoInstance
reply_on now id ask v key (Some public) = reply_under now id ask v public key

-- the reply that follows only from the view, the command and its moment
abbrev pub sealed_reply : View → ℕ → ℕ → Option (List ℕ) → Ask → Reply
sealed_reply v t id key ask = reply_on (max t v.moment) id ask v key v.public

-- the instance is closed
abbrev pub is_shut : Option InstanceView → Bool
is_shut None = false
is_shut (Some i) = i.closed

-- the instance of a host is closed
abbrev pub is_closed : HostView → ℕ → Bool
is_closed h id = is_shut (instance_at h id)

-- the host after the event of an answer, if there is one
abbrev pub with_event : HostView → Option EventView → HostView
with_event h None = h
with_event h (Some e) = apply h e

-- the host after a command
abbrev pub host_after : HostView → ℕ → CommandView → HostView
host_after h t command = with_event h (step h t command).event

-- if the instance that a command asks about isn't closed after the step, the reply is the one that follows from the caller's view
abbrev pub IsSealed : HostView → ℕ → CommandView → Answer → Type 0
IsSealed h t (Create body) a = Unit {0}
IsSealed h t (To id key ask) a = is_closed (with_event h a.event) id ≡ false → a.reply ≡ sealed_reply (view h id (caller_number h id key)) t id key ask

-- the reply is a refusal
abbrev pub is_refused : Reply → Bool
is_refused (reply.Created id) = false
is_refused (reply.Status id you) = false
is_refused (reply.Kept turn) = false
is_refused (reply.Own id member) = false
is_refused reply.Closed = false
is_refused (reply.Publish id what) = false
is_refused (reply.Refused r) = true

-- there is no event; or it is the close, at the moment of the step, of the instance that is asked about, which is open past its deadline
abbrev pub IsLateClose : HostView → ℕ → CommandView → Option EventView → Type 0
IsLateClose h t (Create body) e = e ≡ None
IsLateClose h t (To id key ask) e = (e ≡ None) ⊎ ((e ≡ Some (Closed (max t h.moment) id)) × IsSomeAnd (instance_at h id) (λ i. is_over (max t h.moment) i ≡ true))

-- a refusal has no event but such a close
abbrev pub IsQuiet : HostView → ℕ → CommandView → Answer → Type 0
IsQuiet h t command a = is_refused a.reply ≡ true → IsLateClose h t command a.event

-- a step of a run: a moment and a command
pub record Asked : Type 0 where
  pub moment : ℕ
  pub command : CommandView

-- the host after a command that was asked at its moment
abbrev pub next : HostView → Asked → HostView
next h a = host_after h a.moment a.command

-- the reply, if the command is on this instance and its caller is this one
abbrev pub same_caller : Caller → Caller → Bool
same_caller None None = true
same_caller None (Some m) = false
same_caller (Some k) None = false
same_caller (Some k) (Some m) = k == m

-- the reply that a caller gets to a command, if it is their own command on this instance
abbrev pub heard_of : HostView → ℕ → Caller → ℕ → CommandView → Option Reply
heard_of h id caller t (Create body) = None
heard_of h id caller t (To other key ask) = if (other == id) && same_caller (caller_number h other key) caller then Some (step h t (To other key ask)).reply else None

-- what a caller hears of an instance, step by step, before the step that closes it: the reply to their own command on it, otherwise nothing
abbrev pub heard : HostView → ℕ → Caller → List Asked → List (Option Reply)
heard h id caller [] = []
heard h id caller (a ∷ run) = if is_closed (next h a) id then [] else heard_of h id caller a.moment a.command ∷ heard (next h a) id caller run

-- what the caller's view shows before each of these steps
abbrev pub views : HostView → ℕ → Caller → List Asked → List View
views h id caller [] = []
views h id caller (a ∷ run) = if is_closed (next h a) id then [] else view h id caller ∷ views (next h a) id caller run

-- the step keeps a new bid by this member on this instance
abbrev pub KeepsBid : HostView → ℕ → ℕ → Asked → Type 0
KeepsBid h id m a = (now turn : ℕ) × (given : Bid) × ((step h a.moment a.command).event ≡ Some (BidKept now id m turn given))

-- two steps are equal; or both are bids by the same member on the same instance at the same moment, each with its event, but not the caller's own
-- bid on this instance
abbrev pub AreAlike : HostView → HostView → ℕ → Caller → Asked → Asked → Type 0
AreAlike g h id caller a b = (a ≡ b) ⊎ ((a.moment ≡ b.moment) × ((k m : ℕ) × (k ≡ id → caller ≢ Some m) × KeepsBid g k m a × KeepsBid h k m b))

-- the two lists have the same length, and their steps are alike pair by pair, each at its own host
abbrev pub RunAlike : HostView → HostView → ℕ → Caller → List Asked → List Asked → Type 0
RunAlike g h id caller [] [] = Unit {0}
RunAlike g h id caller [] (b ∷ others) = ⊥
RunAlike g h id caller (a ∷ run) [] = ⊥
RunAlike g h id caller (a ∷ run) (b ∷ others) = AreAlike g h id caller a b × RunAlike (next g a) (next h b) id caller run others

-- the host with no instances
abbrev pub empty : List ℕ → HostView
empty secret = record { secret = secret; moment = 0; instances = [] }
