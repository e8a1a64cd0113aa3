-- One step of the host: a command at a moment has at most one event, and one reply.
use Rattle.std.specs.Prelude.{ℕ, ◌+◌, max, Bool, true, not, ◌&&◌, ◌==◌, nat_le, nat_lt, List, [], ◌∷◌, map, length, if◌then◌else◌, is_some, is_none, option_and_then, Option, None, Some, Result, Ok, Err}
use Rattle.std.specs.List.{list_all}
use Rattle.std.specs.Option.{option_map}
use Rattle.bid_rules.specs.declared.bids.Bid.{Bid}
use Rattle.bid_rules.specs.declared.bids.Bid.TheVariants as bid
use Rattle.bid_rules.specs.declared.bids.Facts.{Facts}
use Rattle.bid_rules.specs.declared.bids.Facts.TheVariants.{Rent, Goods, Fares}
use Rattle.sealed_core.specs.declared.limits.TheConstants.{MOST_INSTANCES, MOST_TURNS}
use Rattle.sealed_core.specs.declared.replies.Answered.{Answered}
use Rattle.sealed_core.specs.declared.commands.Ask.{Ask}
use Rattle.sealed_core.specs.declared.commands.Ask.TheVariants as asks
use Rattle.body_fields.specs.declared.bodies.BidBody.{BidBody}
use Rattle.body_fields.specs.declared.fields.BodyFault.{BodyFault}
use Rattle.body_fields.specs.declared.fields.BodyFault.TheVariants.{Json, Field}
use Rattle.sealed_core.specs.declared.commands.Command.{Command}
use Rattle.sealed_core.specs.declared.commands.Command.TheVariants as command
use Rattle.body_fields.specs.declared.fields.FieldName.{FieldName}
use Rattle.body_fields.specs.declared.fields.FieldName.TheVariants as field
use Rattle.sealed_core.specs.declared.replies.Refusal.{Refusal}
use Rattle.sealed_core.specs.declared.replies.Refusal.TheVariants as refusal
use Rattle.sealed_core.specs.declared.replies.Reply.{Reply}
use Rattle.sealed_core.specs.declared.replies.Reply.TheVariants as reply
use Rattle.body_fields.specs.declared.creations.Creation.{Creation}
use Rattle.sealed_core.specs.Host.{IsCheckedCreation, CreationView, InstanceView, HostView, EventView, Created, BidKept, Closed, Withdrawn, creation_view, event_view, instance_at, kept_turn, kept_bid}
use Rattle.sealed_core.specs.Keys.{first_holder}
use Rattle.sealed_core.specs.Sameness.{same_creation, same_text, is_kept}
use Rattle.body_fields.specs.Rules.{allowed_bid}

-- a command creates an instance, or asks something of the one with this id, under a key or none
pub data CommandView : Type 0 where
  Create : Result CreationView BodyFault → CommandView
  To : (id : ℕ) → (key : Option (List ℕ)) → Ask → CommandView

-- what a creation that was read says, or its fault
abbrev pub creation_seen : Result Creation BodyFault → Result CreationView BodyFault
creation_seen (Ok creation) = Ok (creation_view creation)
creation_seen (Err fault) = Err fault

-- what a command in the code asks for
abbrev pub command_view : Command → CommandView
command_view (command.Create body) = Create (creation_seen body)
command_view (command.Status id key) = To id key asks.Status
command_view (command.Bid id key body) = To id key (asks.Bid body)
command_view (command.Own id key) = To id key asks.Own
command_view (command.Close id key) = To id key asks.Close
command_view (command.Publish id key what) = To id key (asks.Publish what)
command_view (command.Withdraw id key body) = To id key (asks.Withdraw body)

-- at most one event, and a reply
pub record Answer : Type 0 where
  pub event : Option EventView
  pub reply : Reply

-- what an answer in the code says
abbrev pub answer_view : Answered → Answer
answer_view a = record { event = option_map event_view a.event; reply = a.reply }

-- this reply, with no event
abbrev pub says : Reply → Answer
says r = record { event = None; reply = r }

-- this refusal, with no event
abbrev pub refused : Refusal → Answer
refused r = says (reply.Refused r)

-- the refusal of a body with this fault
abbrev pub answer_to_fault : BodyFault → Answer
answer_to_fault Json = refused refusal.BadJson
answer_to_fault (Field name) = refused (refusal.BadField name)

-- the first instance with a tag, and its id; the ids of the list begin with the given one
abbrev pub tagged_from : ℕ → List InstanceView → List ℕ → Option (ℕ × CreationView)
tagged_from id [] tag = None
tagged_from id (i ∷ instances) tag = if same_text i.creation.tag tag then Some (id, i.creation) else tagged_from (id + 1) instances tag

-- the answer to a creation, whether or not an instance has its tag
abbrev pub new_creation : ℕ → ℕ → CreationView → Option (ℕ × CreationView) → Answer
new_creation now count c None = if nat_lt count MOST_INSTANCES then record { event = Some (Created now c); reply = reply.Created (count + 1) } else refused refusal.HostFull
new_creation now count c (Some found) = if same_creation found.1 c then says (reply.Created found.0) else refused refusal.TagTaken

-- the answer to a creation that was read
abbrev pub answer_creation : ℕ → List InstanceView → Result CreationView BodyFault → Answer
answer_creation now instances (Err fault) = answer_to_fault fault
answer_creation now instances (Ok c) = new_creation now (length instances) c (tagged_from 1 instances c.tag)

-- the instance that a command asks about and the caller's number in it, or the first refusal
abbrev pub caller_by : InstanceView → Option ℕ → Result (InstanceView × ℕ) Refusal
caller_by i None = Err refusal.WrongKey
caller_by i (Some m) = Ok (i, m)

-- who holds a key at an instance: a member from 1, the organiser 0, or nobody
abbrev pub holder : List ℕ → ℕ → InstanceView → List ℕ → Option ℕ
holder secret id i key = first_holder secret id key (length i.creation.members + 1) 0

-- the instance that was found with its caller, or the refusal of the key
abbrev pub caller_in : List ℕ → ℕ → Option InstanceView → Option (List ℕ) → Result (InstanceView × ℕ) Refusal
caller_in secret id None key = Err refusal.NoInstance
caller_in secret id (Some i) None = Err refusal.NoKey
caller_in secret id (Some i) (Some key) = caller_by i (holder secret id i key)

-- the instance with its caller, or the refusal of the key
abbrev pub caller_of : HostView → ℕ → Option (List ℕ) → Result (InstanceView × ℕ) Refusal
caller_of h id key = caller_in h.secret id (instance_at h id) key

-- the organiser neither bids nor withdraws nor has a bid; a member doesn't close
abbrev pub may_ask : ℕ → Ask → Bool
may_ask m asks.Status = true
may_ask m (asks.Bid body) = not (m == 0)
may_ask m asks.Own = not (m == 0)
may_ask m asks.Close = m == 0
may_ask m (asks.Publish what) = true
may_ask m (asks.Withdraw body) = not (m == 0)

-- the standing of a caller in an instance, which is closed or not: all that the answer to what they ask depends on
pub record Standing : Type 0 where
  pub facts : Facts
  pub closed : Bool
  pub have_bid : List Bool
  pub turn : ℕ
  pub bid : Option Bid

-- what the answer to a member depends on
abbrev pub standing_of : InstanceView → ℕ → Bool → Standing
standing_of i m closed = record { facts = i.creation.facts; closed = closed; have_bid = map is_some i.bids; turn = kept_turn i m; bid = kept_bid i m }

-- the answer to a bid with a right body
abbrev pub bid_turn : ℕ → ℕ → ℕ → Standing → ℕ → Bid → Answer
bid_turn now id m standing turn given =
    if standing.closed then refused refusal.Closed
    else if (turn == standing.turn) && is_kept standing.bid given then says (reply.Kept standing.turn)
    else if not (turn == (standing.turn + 1)) then refused (refusal.Turn standing.turn)
    else if standing.turn == MOST_TURNS then refused refusal.TurnsUsed
    else record { event = Some (BidKept now id m turn given); reply = reply.Kept turn }

-- the bid of a body, of the kind that the facts ask for, if it is checked
abbrev pub form_of : Facts → BidBody → Option Bid
form_of (Rent facts) body = option_map bid.Values body.values
form_of (Goods facts) body = option_map bid.Values body.values
form_of (Fares facts) body = option_map bid.Place body.place

-- the field of a bid for these facts: values, or a place
abbrev pub form_field : Facts → FieldName
form_field (Rent facts) = field.Values
form_field (Goods facts) = field.Values
form_field (Fares facts) = field.Place

-- the bid, if the rule of these facts allows it
abbrev pub bid_by_rule : Facts → Option Bid → Option Bid
bid_by_rule facts given = option_and_then (allowed_bid facts) given

-- the answer to a bid by its form
abbrev pub bid_form : ℕ → ℕ → ℕ → Standing → ℕ → Option Bid → Answer
bid_form now id m standing turn None = refused (refusal.BadField (form_field standing.facts))
bid_form now id m standing turn (Some given) = bid_turn now id m standing turn given

-- the answer to a bid by its turn and its form
abbrev pub bid_body : ℕ → ℕ → ℕ → Standing → BidBody → Option ℕ → Answer
bid_body now id m standing body None = refused (refusal.BadField field.Turn)
bid_body now id m standing body (Some turn) = bid_form now id m standing turn (bid_by_rule standing.facts (form_of standing.facts body))

-- the answer to a bid that was read
abbrev pub answer_bid : ℕ → ℕ → ℕ → Standing → Result BidBody BodyFault → Answer
answer_bid now id m standing (Err fault) = answer_to_fault fault
answer_bid now id m standing (Ok body) = bid_body now id m standing body body.turn

-- the answer to a withdrawal with a right body
abbrev pub withdrawal_turn : ℕ → ℕ → ℕ → Standing → ℕ → Answer
withdrawal_turn now id m standing turn =
    if standing.closed then refused refusal.Closed
    else if (turn == standing.turn) && nat_le 1 standing.turn && is_none standing.bid then says (reply.Kept standing.turn)
    else if not (turn == (standing.turn + 1)) then refused (refusal.Turn standing.turn)
    else if standing.turn == MOST_TURNS then refused refusal.TurnsUsed
    else if is_none standing.bid then refused refusal.NoBid
    else record { event = Some (Withdrawn now id m turn); reply = reply.Kept turn }

-- the answer to a withdrawal by its turn
abbrev pub withdrawal_body : ℕ → ℕ → ℕ → Standing → Option ℕ → Answer
withdrawal_body now id m standing None = refused (refusal.BadField field.Turn)
withdrawal_body now id m standing (Some turn) = withdrawal_turn now id m standing turn

-- the answer to a withdrawal that was read
abbrev pub answer_withdrawal : ℕ → ℕ → ℕ → Standing → Result BidBody BodyFault → Answer
answer_withdrawal now id m standing (Err fault) = answer_to_fault fault
answer_withdrawal now id m standing (Ok body) = withdrawal_body now id m standing body.turn

-- the answer to a close that is asked for
abbrev pub answer_close : ℕ → ℕ → Standing → Answer
answer_close now id standing =
    if standing.closed then refused refusal.Closed
    else if list_all (λ has. has) standing.have_bid then record { event = Some (Closed now id); reply = reply.Closed }
    else refused refusal.NotAll

-- what is answered to a caller who may ask it
abbrev pub answer_ask : ℕ → ℕ → ℕ → Standing → Ask → Answer
answer_ask now id m standing asks.Status = says (reply.Status id m)
answer_ask now id m standing (asks.Bid body) = answer_bid now id m standing body
answer_ask now id m standing asks.Own = says (reply.Own id m)
answer_ask now id m standing asks.Close = answer_close now id standing
answer_ask now id m standing (asks.Publish what) = if standing.closed then says (reply.Publish id what) else refused refusal.NotClosed
answer_ask now id m standing (asks.Withdraw body) = answer_withdrawal now id m standing body

-- the deadline has passed, and the instance isn't closed
abbrev pub is_over : ℕ → InstanceView → Bool
is_over now i = not i.closed && nat_le i.creation.deadline now

-- if the deadline has passed, the event is the Close, and the reply is that of the closed instance
abbrev pub answer_caller : ℕ → ℕ → Ask → InstanceView → ℕ → Answer
answer_caller now id ask i m =
    if not (may_ask m ask) then refused refusal.Role
    else if is_over now i then record { event = Some (Closed now id); reply = (answer_ask now id m (standing_of i m true) ask).reply }
    else answer_ask now id m (standing_of i m i.closed) ask

-- the answer on an instance, to its caller or with the refusal of the key
abbrev pub answer_to : ℕ → ℕ → Ask → Result (InstanceView × ℕ) Refusal → Answer
answer_to now id ask (Err r) = refused r
answer_to now id ask (Ok caller) = answer_caller now id ask caller.0 caller.1

-- the answer to a command at the given moment, or at the greatest kept one if that is later
abbrev pub step : HostView → ℕ → CommandView → Answer
step h t (Create body) = answer_creation (max t h.moment) h.instances body
step h t (To id key ask) = answer_to (max t h.moment) id ask (caller_of h id key)

-- a creation in the command keeps its rules
abbrev pub IsCheckedCommand : CommandView → Type 0
IsCheckedCommand (Create (Ok c)) = IsCheckedCreation c
IsCheckedCommand (Create (Err fault)) = Unit {0}
IsCheckedCommand (To id key ask) = Unit {0}
