-- What a publication is of: an instance that is there, is asked for this, and is closed after the step.
use Rattle.std.proofs.Common.{◌≡◌, ℕ, ◌+◌, inl, max, Bool, true, false, List, length, nat_lt, is_some, Option, None, Some, Ok, refl, ap, sym, subst, ◌∙◌, true≢false}
use Rattle.std.specs.Prelude.{IsSome}
use Rattle.std.proofs.lemmas.Bool.{cond_both}
use Rattle.sealed_core.specs.declared.limits.TheConstants.{MOST_INSTANCES}
use Rattle.sealed_core.specs.declared.commands.Ask.TheVariants as asks
use Rattle.sealed_core.specs.declared.commands.What.{What}
use Rattle.sealed_core.specs.declared.replies.Refusal.TheVariants as refusal
use Rattle.sealed_core.specs.declared.replies.Reply.{Reply}
use Rattle.sealed_core.specs.declared.replies.Reply.TheVariants as reply
use Rattle.sealed_core.specs.Host.{CreationView, HostView, Closed, Created, instance_at}
use Rattle.sealed_core.specs.Sameness.{same_creation}
use Rattle.sealed_core.specs.Sealed.{IsLateClose, with_event, is_closed, is_shut}
use Rattle.sealed_core.specs.Step.{Answer, CommandView, Create, To, says, refused, standing_of, new_creation, tagged_from, step}
use Rattle.sealed_core.proofs.AnswerCases.{Early, Late, late_answer, of_ask, of_step}
use Rattle.sealed_core.proofs.Quiet.{late_close}
use Rattle.sealed_core.proofs.Sealing.{closed_after}

-- what is known of a publication
pub record IsOf (h : HostView) (t : ℕ) (command : CommandView) (a : Answer) (id : ℕ) (what : What) : Type 0 where
  pub asked : (key : List ℕ) × (command ≡ To id (Some key) (asks.Publish what))
  pub stands : IsSome (instance_at h id)
  pub event : IsLateClose h t command a.event
  pub closed : is_closed (with_event h a.event) id ≡ true

-- a publication is one that is known so
abbrev Publishes : HostView → ℕ → CommandView → Answer → Type 0
Publishes h t command a = (id : ℕ) (what : What) → a.reply ≡ reply.Publish id what → IsOf h t command a id what

-- a reply that is a publication
abbrev is_published : Reply → Bool
is_published (reply.Created id) = false
is_published (reply.Status id you) = false
is_published (reply.Kept turn) = false
is_published (reply.Own id m) = false
is_published reply.Closed = false
is_published (reply.Publish id what) = true
is_published (reply.Refused r) = false

module _ (h : HostView) (t : ℕ) where
  -- what is no publication
  none : (command : CommandView) (a : Answer) → is_published a.reply ≡ false → Publishes h t command a
  none command a never id what is = absurd (true≢false (sym (ap is_published is) ∙ never))

  -- what is published of this instance
  published : (command : CommandView) (a : Answer) (id : ℕ) (what : What) → a.reply ≡ reply.Publish id what → IsOf h t command a id what → Publishes h t command a
  published command a id what said is other asked says_other =
      let same : reply.Publish id what ≡ reply.Publish other asked = sym said ∙ says_other in
      subst (λ (k : ℕ). IsOf h t command a k asked) (one same) (subst (λ (w : What). IsOf h t command a id w) (alike same) is)
    where
      one : reply.Publish id what ≡ reply.Publish other asked → id ≡ other
      one e = cc

      alike : reply.Publish id what ≡ reply.Publish other asked → what ≡ asked
      alike e = cc

  -- what is asked before the deadline
  publishes_early : Early h t (Publishes h t)
  publishes_early id m i key ask there held may early =
      let G : Answer → Type 0 = Publishes h t (To id (Some key) ask) in
      of_ask G (max t h.moment) id m (standing_of i m i.closed) ask
      record {
        refusals = λ r. none (To id (Some key) ask) _ refl;
        status = λ _. none (To id (Some key) ask) _ refl;
        own = λ _. none (To id (Some key) ask) _ refl;
        turns = λ _ turn. none (To id (Some key) ask) _ refl;
        bids = λ _ body turn given _ _ _. none (To id (Some key) ask) _ refl;
        withdrawals = λ _ body turn _ _. none (To id (Some key) ask) _ refl;
        closes = λ _ _. none (To id (Some key) ask) _ refl;
        publications = λ closed what is.
            published (To id (Some key) ask) (says (reply.Publish id what)) id what refl
            record { asked = (key, ap (To id (Some key)) is); stands = ap is_some there; event = inl refl; closed = ap is_shut there ∙ closed };
      }

  -- what is asked at or past it
  publishes_late : Late h t (Publishes h t)
  publishes_late id m i key ask there held may over =
      let now = max t h.moment in
      let G : Answer → Type 0 = λ a. Publishes h t (To id (Some key) ask) (late_answer now id a) in
      of_ask G now id m (standing_of i m true) ask
      record {
        refusals = λ r. none (To id (Some key) ask) _ refl;
        status = λ _. none (To id (Some key) ask) _ refl;
        own = λ _. none (To id (Some key) ask) _ refl;
        turns = λ _ turn. none (To id (Some key) ask) _ refl;
        bids = λ _ body turn given _ _ _. none (To id (Some key) ask) _ refl;
        withdrawals = λ _ body turn _ _. none (To id (Some key) ask) _ refl;
        closes = λ _ _. none (To id (Some key) ask) _ refl;
        publications = λ _ what is.
            published (To id (Some key) ask) (late_answer now id (says (reply.Publish id what))) id what refl
            record {
              asked = (key, ap (To id (Some key)) is);
              stands = ap is_some there;
              event = late_close h t id i there over (Some (Closed now id)) refl;
              closed = closed_after h id now i there;
            };
      }

  -- a creation publishes nothing
  publishes_creation : (c : CreationView) (found : Option (ℕ × CreationView)) → Publishes h t (Create (Ok c)) (new_creation (max t h.moment) (length h.instances) c found)
  publishes_creation c None =
      cond_both (nat_lt (length h.instances) MOST_INSTANCES) (record { event = Some (Created (max t h.moment) c); reply = reply.Created (length h.instances + 1) }) (refused refusal.HostFull) (Publishes h t (Create (Ok c)))
      (λ _. none (Create (Ok c)) _ refl) (λ _. none (Create (Ok c)) _ refl)
  publishes_creation c (Some found) =
      cond_both (same_creation found.1 c) (says (reply.Created found.0)) (refused refusal.TagTaken) (Publishes h t (Create (Ok c))) (λ _. none (Create (Ok c)) _ refl) (λ _. none (Create (Ok c)) _ refl)

-- whatever a step publishes is known so
pub publishes : (h : HostView) (t : ℕ) (command : CommandView) → Publishes h t command (step h t command)
publishes h t command =
    of_step h t (Publishes h t) (λ command r. none h t command (refused r) refl) (publishes_late h t) (publishes_early h t) (λ c. publishes_creation h t c (tagged_from 1 h.instances c.tag)) command
