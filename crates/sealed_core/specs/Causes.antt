-- Why a command is refused: the cause of each refusal.
use Rattle.std.specs.Prelude.{◌≡◌, ◌≢◌, ℕ, ◌+◌, ◌≤◌, ◌⊎◌, max, Bool, true, false, ◌||◌, nat_le, List, length, All, Option, None, Some, Result, Ok, Err}
use Rattle.bid_rules.specs.declared.bids.Bid.{Bid}
use Rattle.bid_rules.specs.Facts.{IsCheckedBid}
use Rattle.sealed_core.specs.declared.commands.Ask.{Ask}
use Rattle.sealed_core.specs.declared.commands.Ask.TheVariants as asks
use Rattle.body_fields.specs.declared.bodies.BidBody.{BidBody}
use Rattle.body_fields.specs.declared.fields.BodyFault.{BodyFault}
use Rattle.body_fields.specs.declared.fields.BodyFault.TheVariants.{Json, Field}
use Rattle.body_fields.specs.declared.fields.FieldName.TheVariants as field
use Rattle.sealed_core.specs.declared.limits.TheConstants.{MOST_INSTANCES, MOST_TURNS}
use Rattle.sealed_core.specs.declared.replies.Refusal.{Refusal}
use Rattle.sealed_core.specs.declared.replies.Refusal.TheVariants as refusal
use Rattle.sealed_core.specs.Host.{CreationView, InstanceView, HostView, instance_at}
use Rattle.sealed_core.specs.Keys.{key_text}
use Rattle.sealed_core.specs.Runs.{HoldsLeast}
use Rattle.sealed_core.specs.Step.{CommandView, Create, To, Standing, standing_of, form_of, form_field, may_ask, tagged_from}

-- the refusal of a body that is at fault
abbrev pub refusal_of_body : BodyFault → Refusal
refusal_of_body Json = refusal.BadJson
refusal_of_body (Field name) = refusal.BadField name

-- a creation is refused if its body is at fault, if another has its tag, or if it is new and the host is full
abbrev pub CauseOfCreation : List InstanceView → Result CreationView BodyFault → Refusal → Type 0
CauseOfCreation instances (Err fault) r = r ≡ refusal_of_body fault
CauseOfCreation instances (Ok c) r =
    ((id : ℕ) × (found : CreationView) × (tagged_from 1 instances c.tag ≡ Some (id, found)) × (found ≢ c) × (r ≡ refusal.TagTaken))
    ⊎ (All (λ i. i.creation.tag ≢ c.tag) instances × (MOST_INSTANCES ≤ length instances) × (r ≡ refusal.HostFull))

-- a bid with a right body is refused if the instance is closed, if the turn is neither the next one nor that of an equal kept bid, or if all turns
-- are used
abbrev pub CauseOfBid : Standing → ℕ → Bid → Refusal → Type 0
CauseOfBid s turn given r =
    ((s.closed ≡ true) × (r ≡ refusal.Closed))
    ⊎ (((s.closed ≡ false) × (turn ≢ s.turn + 1) × ((turn ≡ s.turn) × (s.bid ≡ Some given) → ⊥) × (r ≡ refusal.Turn s.turn))
    ⊎ ((s.closed ≡ false) × (turn ≡ s.turn + 1) × (s.turn ≡ MOST_TURNS) × (r ≡ refusal.TurnsUsed)))

-- a withdrawal with a turn is refused if the instance is closed, if the turn is neither the next one nor a kept turn above 0 that left no bid, if all
-- turns are used, or if there is no bid
abbrev pub CauseOfWithdrawal : Standing → ℕ → Refusal → Type 0
CauseOfWithdrawal s turn r =
    ((s.closed ≡ true) × (r ≡ refusal.Closed))
    ⊎ (((s.closed ≡ false) × (turn ≢ s.turn + 1) × ((turn ≡ s.turn) × (1 ≤ s.turn) × (s.bid ≡ None) → ⊥) × (r ≡ refusal.Turn s.turn))
    ⊎ (((s.closed ≡ false) × (turn ≡ s.turn + 1) × (s.turn ≡ MOST_TURNS) × (r ≡ refusal.TurnsUsed))
    ⊎ ((s.closed ≡ false) × (turn ≡ s.turn + 1) × (s.turn ≢ MOST_TURNS) × (s.bid ≡ None) × (r ≡ refusal.NoBid))))

-- a bid is refused if it isn't a checked bid of the kind that the facts ask for, or because of its turn
abbrev pub CauseOfForm : Standing → ℕ → Option Bid → Refusal → Type 0
CauseOfForm s turn form r =
    (((given : Bid) → form ≡ Some given → IsCheckedBid s.facts given → ⊥) × (r ≡ refusal.BadField (form_field s.facts)))
    ⊎ ((given : Bid) × (form ≡ Some given) × IsCheckedBid s.facts given × CauseOfBid s turn given r)

-- the body of a bid is refused if it has no turn, or because of the bid in it
abbrev pub CauseOfBidBody : Standing → BidBody → Option ℕ → Refusal → Type 0
CauseOfBidBody s body None r = r ≡ refusal.BadField field.Turn
CauseOfBidBody s body (Some turn) r = CauseOfForm s turn (form_of s.facts body) r

-- the body of a withdrawal is refused only because of its turn
abbrev pub CauseOfWithdrawalBody : Standing → Option ℕ → Refusal → Type 0
CauseOfWithdrawalBody s None r = r ≡ refusal.BadField field.Turn
CauseOfWithdrawalBody s (Some turn) r = CauseOfWithdrawal s turn r

-- why a caller who may ask something is refused
abbrev pub CauseOfAsk : Standing → Ask → Refusal → Type 0
CauseOfAsk s asks.Status r = ⊥
CauseOfAsk s (asks.Bid (Err fault)) r = r ≡ refusal_of_body fault
CauseOfAsk s (asks.Bid (Ok body)) r = CauseOfBidBody s body body.turn r
CauseOfAsk s asks.Own r = ⊥
CauseOfAsk s asks.Close r = ((s.closed ≡ true) × (r ≡ refusal.Closed)) ⊎ ((s.closed ≡ false) × (All (λ has. has ≡ true) s.have_bid → ⊥) × (r ≡ refusal.NotAll))
CauseOfAsk s (asks.Publish what) r = (s.closed ≡ false) × (r ≡ refusal.NotClosed)
CauseOfAsk s (asks.Withdraw (Err fault)) r = r ≡ refusal_of_body fault
CauseOfAsk s (asks.Withdraw (Ok body)) r = CauseOfWithdrawalBody s body.turn r

-- the instance is closed, or its deadline has passed
abbrev pub is_past : ℕ → InstanceView → Bool
is_past now i = i.closed || nat_le i.creation.deadline now

-- a caller is refused if they may not ask this, or if what they ask is refused
abbrev pub CauseOfCaller : ℕ → InstanceView → ℕ → Ask → Refusal → Type 0
CauseOfCaller now i m ask r = ((may_ask m ask ≡ false) × (r ≡ refusal.Role)) ⊎ ((may_ask m ask ≡ true) × CauseOfAsk (standing_of i m (is_past now i)) ask r)

-- a key is refused if nobody in the instance has it, or if its least holder is refused
abbrev pub CauseOfKey : ℕ → List ℕ → ℕ → InstanceView → List ℕ → Ask → Refusal → Type 0
CauseOfKey now secret id i key ask r =
    (((m : ℕ) → m ≤ length i.creation.members → key_text secret id m ≢ key) × (r ≡ refusal.WrongKey))
    ⊎ ((m : ℕ) × HoldsLeast secret id (length i.creation.members) key m × CauseOfCaller now i m ask r)

-- a command on an instance is refused if no instance has the id, if no key is shown, or if the key is refused
abbrev pub CauseOn : ℕ → List ℕ → ℕ → Option InstanceView → Option (List ℕ) → Ask → Refusal → Type 0
CauseOn now secret id None key ask r = r ≡ refusal.NoInstance
CauseOn now secret id (Some i) None ask r = r ≡ refusal.NoKey
CauseOn now secret id (Some i) (Some key) ask r = CauseOfKey now secret id i key ask r

-- why a command is refused
abbrev pub Cause : HostView → ℕ → CommandView → Refusal → Type 0
Cause h t (Create body) r = CauseOfCreation h.instances body r
Cause h t (To id key ask) r = CauseOn (max t h.moment) h.secret id (instance_at h id) key ask r
