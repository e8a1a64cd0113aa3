-- What a caller is told of an instance that is not closed, written from what they may know of it; and what they are told in a run.
use Rattle.std.specs.Prelude.{ℕ, ◌&&◌, ◌==◌, false, List, [], ◌∷◌, length, if◌then◌else◌, Option, None, Some, option_map, ◌≡◌}
use Rattle.serde_json.specs.Data.{Data}
use Rattle.serde_json.specs.Written.{compact_text}
use Rattle.bid_rules.specs.declared.bids.Bid.{Bid}
use Rattle.sealed_core.specs.declared.commands.Ask.{Ask}
use Rattle.sealed_core.specs.declared.replies.Reply.{Reply}
use Rattle.sealed_core.specs.declared.replies.Reply.TheVariants as reply
use Rattle.sealed_core.specs.Host.{HostView, InstanceView, instance_at, kept_bid, kept_turn}
use Rattle.sealed_core.specs.Sealed.{Asked, Caller, View, with_event, caller_number, host_after, is_closed, next, public_of, same_caller, sealed_reply, view}
use Rattle.sealed_core.specs.Step.{Answer, CommandView, Create, To, step}
use Rattle.reply_texts.specs.Refusals.{of_refusal}
use Rattle.reply_texts.specs.Replies.{of_closed, of_own, of_status, of_turn, status_of, text_of}

-- what is told in a reply: its HTTP status and its text, which a publication has from a division
pub record Told : Type 0 where
  pub status : ℕ
  pub text : Option (List ℕ)

-- what is told in reply to a command, over the host after its event
abbrev pub told : HostView → ℕ → CommandView → Told
told h t command = record { status = status_of (step h t command).reply; text = text_of (host_after h t command) (step h t command).reply }

-- a reply as JSON, made only from what the caller may see
abbrev pub value_in : View → Reply → Option Data
value_in v (reply.Created id) = None
value_in v (reply.Status id you) = option_map (of_status id you) v.public
value_in v (reply.Kept turn) = Some (of_turn turn)
value_in v (reply.Own id m) = Some (of_own v.turn v.bid)
value_in v reply.Closed = Some of_closed
value_in v (reply.Publish id what) = None
value_in v (reply.Refused r) = Some (of_refusal r)

-- what is told in a reply, made only from what the caller may see
abbrev pub told_in : View → Reply → Told
told_in v r = record { status = status_of r; text = option_map compact_text (value_in v r) }

-- what is told in reply to a command on an instance that is not closed after it, made only from what the caller may see
abbrev pub sealed_told : View → ℕ → ℕ → Option (List ℕ) → Ask → Told
sealed_told v t id key ask = told_in v (sealed_reply v t id key ask)

-- if this answers a command on an instance that is not closed after it, its status and this text are made only from what the caller may see
abbrev pub IsSealedText : HostView → Answer → List ℕ → Type 0
IsSealedText h a text =
    (t id : ℕ) (key : Option (List ℕ)) (ask : Ask) → a ≡ step h t (To id key ask) → is_closed (with_event h a.event) id ≡ false
    → sealed_told (view h id (caller_number h id key)) t id key ask ≡ record { status = status_of a.reply; text = Some text }

-- what a step of a run tells the caller of an instance: the reply if the command is the caller's own and on this instance, and otherwise nothing
abbrev pub told_of : HostView → ℕ → Caller → ℕ → CommandView → Option Told
told_of h id caller t (Create body) = None
told_of h id caller t (To other key ask) = if (other == id) && same_caller (caller_number h other key) caller then Some (told h t (To other key ask)) else None

-- what a caller is told of an instance, step by step, until the step that closes it
abbrev pub told_all : HostView → ℕ → Caller → List Asked → List (Option Told)
told_all h id caller [] = []
told_all h id caller (a ∷ run) = if is_closed (next h a) id then [] else told_of h id caller a.moment a.command ∷ told_all (next h a) id caller run

-- a member's own kept turn and bid
abbrev pub own_of : ℕ → InstanceView → ℕ × Option Bid
own_of m i = (kept_turn i m, kept_bid i m)

-- two hosts show the same in a reply: for a creation the secret and the number of members, for a status the public facts, for an own bid the member's
-- turn and bid, and for any other reply nothing of the host
abbrev pub ShowSame : HostView → HostView → Reply → Type 0
ShowSame g h (reply.Created id) = (g.secret ≡ h.secret) × (option_map (λ i. length i.creation.members) (instance_at g id) ≡ option_map (λ i. length i.creation.members) (instance_at h id))
ShowSame g h (reply.Status id you) = option_map public_of (instance_at g id) ≡ option_map public_of (instance_at h id)
ShowSame g h (reply.Kept turn) = Unit {0}
ShowSame g h (reply.Own id m) = option_map (own_of m) (instance_at g id) ≡ option_map (own_of m) (instance_at h id)
ShowSame g h reply.Closed = Unit {0}
ShowSame g h (reply.Publish id what) = Unit {0}
ShowSame g h (reply.Refused r) = Unit {0}
