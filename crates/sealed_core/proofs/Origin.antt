-- The event of a step comes of its command.
use Rattle.std.proofs.Common.{◌≡◌, ℕ, ◌+◌, inl, inr, max, true, not, nat_le, List, length, nat_lt, is_some, Option, None, Some, Ok, IfSome, refl, ap, sym, ◌∙◌, true≢false, unwrap_or}
use Rattle.std.proofs.lemmas.Bool.{and_parts, cond_both, leb-true}
use Rattle.bid_rules.specs.declared.bids.Bid.{Bid}
use Rattle.bid_rules.specs.declared.bids.Facts.{Facts}
use Rattle.sealed_core.specs.declared.limits.TheConstants.{MOST_INSTANCES}
use Rattle.sealed_core.specs.declared.commands.Ask.{Ask}
use Rattle.sealed_core.specs.declared.replies.Refusal.TheVariants as refusal
use Rattle.sealed_core.specs.declared.replies.Reply.TheVariants as reply
use Rattle.sealed_core.specs.Host.{CreationView, InstanceView, HostView, Created, instance_at, moment_of}
use Rattle.sealed_core.specs.Origins.{ComesOf, IsAskedBy}
use Rattle.body_fields.specs.Rules.{allowed_bid}
use Rattle.sealed_core.specs.Sameness.{same_creation}
use Rattle.sealed_core.specs.Step.{Answer, CommandView, Create, To, bid_by_rule, says, refused, holder, may_ask, standing_of, new_creation, tagged_from, step}
use Rattle.sealed_core.proofs.AnswerCases.{Early, Late, of_ask, of_step}
use Rattle.sealed_core.proofs.BidRules.{by_rules}

-- a bid that is checked is the one that was given
same_allowed : (facts : Facts) (bid given : Bid) → allowed_bid facts bid ≡ Some given → bid ≡ given
same_allowed facts bid given =
    by_rules facts bid (λ (allowed : Option Bid). allowed ≡ Some given → bid ≡ given) (λ _ is. ap (λ (o : Option Bid). unwrap_or o bid) is) (λ _ is. absurd (true≢false (sym (ap is_some is))))

-- so is a bid of the form that was sent
same_checked : (facts : Facts) (form : Option Bid) (given : Bid) → bid_by_rule facts form ≡ Some given → form ≡ Some given
same_checked facts None given is = is
same_checked facts (Some bid) given is = ap Some (same_allowed facts bid given is)

-- an answer's event, if there is one, comes of the command at the moment of the step
abbrev Comes : HostView → ℕ → CommandView → Answer → Type 0
Comes h t command a = IfSome a.event (λ e. (moment_of e ≡ max t h.moment) × ComesOf h command e)

module _ (h : HostView) (t : ℕ) where
  -- what a holder of a key asks
  by_key : (id m : ℕ) (i : InstanceView) (key : List ℕ) (ask other : Ask) → instance_at h id ≡ Some i → holder h.secret id i key ≡ Some m → may_ask m ask ≡ true → ask ≡ other
      → IsAskedBy h (To id (Some key) ask) id m i other
  by_key id m i key ask other there held may is =
      record { key = key; asked = ap (To id (Some key)) is; there = there; held = held; may = ap (may_ask m) (sym is) ∙ may }

  -- of what is asked before the deadline
  comes_early : Early h t (Comes h t)
  comes_early id m i key ask there held may early =
      of_ask (Comes h t (To id (Some key) ask)) (max t h.moment) id m (standing_of i m i.closed) ask
      record {
        refusals = λ r. tt;
        status = λ _. tt;
        own = λ _. tt;
        turns = λ _ turn. tt;
        bids = λ _ body turn given is says_turn form. (refl, (i, body, by_key id m i key ask _ there held may is, says_turn, same_checked i.creation.facts _ given form));
        withdrawals = λ _ body turn is says_turn. (refl, (i, body, by_key id m i key ask _ there held may is, says_turn));
        closes = λ _ is. (refl, (i, m, ask, by_key id m i key ask ask there held may refl, inr is));
        publications = λ _ what _. tt;
      }

  -- of what is asked at or past it
  comes_late : Late h t (Comes h t)
  comes_late id m i key ask there held may over =
      let parts = and_parts (not i.closed) (nat_le i.creation.deadline (max t h.moment)) over in
      (refl, (i, m, ask, by_key id m i key ask ask there held may refl, inl (leb-true i.creation.deadline (max t h.moment) parts.1)))

  -- of a creation
  comes_creation : (c : CreationView) (found : Option (ℕ × CreationView)) → Comes h t (Create (Ok c)) (new_creation (max t h.moment) (length h.instances) c found)
  comes_creation c None =
      cond_both (nat_lt (length h.instances) MOST_INSTANCES) (record { event = Some (Created (max t h.moment) c); reply = reply.Created (length h.instances + 1) }) (refused refusal.HostFull) (Comes h t (Create (Ok c)))
      (λ _. (refl, refl)) (λ _. tt)
  comes_creation c (Some found) =
      cond_both (same_creation found.1 c) (says (reply.Created found.0)) (refused refusal.TagTaken) (Comes h t (Create (Ok c))) (λ _. tt) (λ _. tt)

-- the event of every step comes of its command
pub comes : (h : HostView) (t : ℕ) (command : CommandView) → Comes h t command (step h t command)
comes h t command = of_step h t (Comes h t) (λ command r. tt) (comes_late h t) (comes_early h t) (λ c. comes_creation h t c (tagged_from 1 h.instances c.tag)) command
