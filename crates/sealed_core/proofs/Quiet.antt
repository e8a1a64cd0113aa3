-- No refusal has an event but the close of an instance that is asked past its deadline.
use Rattle.std.proofs.Common.{◌≡◌, ℕ, ◌+◌, ◌⊎◌, IsSomeAnd, inl, inr, max, true, false, length, nat_lt, Option, None, Some, Ok, refl, sym, subst, true≢false}
use Rattle.std.proofs.lemmas.Bool.{cond_both}
use Rattle.sealed_core.specs.declared.limits.TheConstants.{MOST_INSTANCES}
use Rattle.sealed_core.specs.declared.replies.Refusal.{Refusal}
use Rattle.sealed_core.specs.declared.replies.Refusal.TheVariants as refusal
use Rattle.sealed_core.specs.declared.replies.Reply.TheVariants as reply
use Rattle.sealed_core.specs.Host.{CreationView, InstanceView, HostView, EventView, Closed, Created, instance_at}
use Rattle.sealed_core.specs.Sameness.{same_creation}
use Rattle.sealed_core.specs.Sealed.{IsLateClose, IsQuiet}
use Rattle.sealed_core.specs.Step.{Answer, CommandView, Create, To, says, refused, is_over, new_creation, tagged_from, step}
use Rattle.sealed_core.specs.Step.{standing_of}
use Rattle.sealed_core.proofs.AnswerCases.{Early, Late, of_ask, of_step}
use Rattle.sealed_core.proofs.Applying.{at_least}

-- no event is quiet
pub no_event : (h : HostView) (t : ℕ) (command : CommandView) → IsLateClose h t command None
no_event h t (Create body) = refl
no_event h t (To id key ask) = inl refl

-- so is the close past the deadline
pub late_close : (h : HostView) (t id : ℕ) (i : InstanceView) → instance_at h id ≡ Some i → is_over (max t h.moment) i ≡ true
    → (e : Option EventView) → e ≡ Some (Closed (max t h.moment) id) → (e ≡ None) ⊎ ((e ≡ Some (Closed (max t h.moment) id)) × IsSomeAnd (instance_at h id) (λ i. is_over (max t h.moment) i ≡ true))
late_close h t id i there over e is = inr (is, at_least (instance_at h id) i (λ i. is_over (max t h.moment) i ≡ true) there over)

-- what is no refusal
accepted : {A : Type 0} → false ≡ true → A
accepted is = absurd (true≢false (sym is))

module _ (h : HostView) (t : ℕ) where
  -- a refusal without an event
  quiet_refusal : (command : CommandView) (r : Refusal) → IsQuiet h t command (refused r)
  quiet_refusal command r is = no_event h t command

  -- of what is asked before the deadline
  quiet_early : Early h t (IsQuiet h t)
  quiet_early id m i key ask there held may early =
      of_ask (IsQuiet h t (To id (Some key) ask)) (max t h.moment) id m (standing_of i m i.closed) ask
      record {
        refusals = λ r is. inl refl;
        status = λ _. accepted;
        own = λ _. accepted;
        turns = λ _ turn. accepted;
        bids = λ _ body turn given _ _ _. accepted;
        withdrawals = λ _ body turn _ _. accepted;
        closes = λ _ _. accepted;
        publications = λ _ what _. accepted;
      }

  -- of what is asked at or past it
  quiet_late : Late h t (IsQuiet h t)
  quiet_late id m i key ask there held may over is = late_close h t id i there over (Some (Closed (max t h.moment) id)) refl

  -- of a creation
  quiet_creation : (c : CreationView) (found : Option (ℕ × CreationView)) → IsQuiet h t (Create (Ok c)) (new_creation (max t h.moment) (length h.instances) c found)
  quiet_creation c None =
      cond_both (nat_lt (length h.instances) MOST_INSTANCES) (record { event = Some (Created (max t h.moment) c); reply = reply.Created (length h.instances + 1) }) (refused refusal.HostFull) (IsQuiet h t (Create (Ok c))) (λ _. accepted) (λ _ is. refl)
  quiet_creation c (Some found) =
      cond_both (same_creation found.1 c) (says (reply.Created found.0)) (refused refusal.TagTaken) (IsQuiet h t (Create (Ok c))) (λ _. accepted) (λ _ is. refl)

-- no refusal of a step has an event but such a close
quiet_step : (h : HostView) (t : ℕ) (command : CommandView) → IsQuiet h t command (step h t command)
quiet_step h t command = of_step h t (IsQuiet h t) (quiet_refusal h t) (quiet_late h t) (quiet_early h t) (λ c. quiet_creation h t c (tagged_from 1 h.instances c.tag)) command

-- the same of an answer that is the step's
pub quiet_from : (h : HostView) (t : ℕ) (command : CommandView) (a : Answer) → a ≡ step h t command → IsQuiet h t command a
quiet_from h t command a is = subst (IsQuiet h t command) (sym is) (quiet_step h t command)
