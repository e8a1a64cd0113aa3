-- The run of a link in which no call of the disk failed and memory sufficed, as a run of a host for which each request is so.
use Rattle.std.proofs.Common.{◌≡◌, ℕ, zero, suc, ◌<◌, ◌≤◌, ◌==◌, Bool, true, false, ◌||◌, List, Option, refl, sym, ap, ◌∙◌, subst, inl, inr, ⊎_elim, arith, le_refl, le_trans, if◌then◌else◌}
use Rattle.std.proofs.lemmas.Bool.{cases_lt}
use Rattle.split_base.specs.declared.disk.Disk.{Ghosts}
use Rattle.split_base.specs.Faults.{HasRisen}
use Rattle.host_journal.specs.States.{State}
use Rattle.serving.specs.Dues.{DueView, closes}
use Rattle.serving.specs.Ends.{Ending}
use Rattle.serving.specs.Runs.{After, LinkRun, Replies, Service}
use Rattle.serving.specs.Serving.{host_service, refusal_said}
use Rattle.serving_laws.specs.Writing.{IsDone, IsUnfailing}

-- the host where no call of the disk fails and memory suffices
abbrev pub unfailing : {D : Type 0} → Ghosts D → Service (D × State)
unfailing d = record { refuses = refusal_said; responds = λ head body moment w new said. IsUnfailing d head body moment w new said }

-- a count that has not risen over two calls has risen in neither
still_both : (a b c : ℕ) → a ≤ b → b ≤ c → (HasRisen a c → ⊥) → (HasRisen a b → ⊥) × (HasRisen b c → ⊥)
still_both a b c one two still = ⊎_elim (λ (less : a < c). absurd (still (inl less))) (λ (most : c ≤ a).
    let first : b ≡ c = omega (arith, one, two, most) in
    let second : b ≡ a = omega (arith, one, two, most) in
    (λ up. still (subst (λ n. HasRisen a n) first up), λ up. still (subst (λ n. HasRisen n c) second up))) (cases_lt a c)

not_memory_end : (b : Bool) (end : Ending) → end ≡ (if b then Ending.memory else Ending.ended) → IsDone end → b ≡ false
not_memory_end true end is done = absurd (subst IsDone is done)
not_memory_end false end is done = refl

neither : (b c : Bool) → (b || c) ≡ false → b ≡ false
neither true c is = is
neither false c is = refl

module _ {D : Type 0} (d : Ghosts D) where
  replies_rise : (last : Bool) (all rest : List ℕ) (answer : Option ℕ) (w : D × State) (interim : List ℕ) (new : D × State) (due : DueView) → Replies (host_service d) last all rest answer w interim new due
      → d.faults w.0 ≤ d.faults new.0
  replies_rise last all rest answer w interim new due (Replies.refused refusal bodiless r none same is) = subst (λ (x : D × State). d.faults w.0 ≤ d.faults x.0) (sym same) (le_refl (d.faults w.0))
  replies_rise last all rest answer w interim new due (Replies.answered head body moment said asks came line responds is) = responds.1.count

  abbrev Rises : ℕ → Type 0
  Rises n = (all : List ℕ) (answers : List (Option ℕ)) (w : D × State) (out : List ℕ) (new : D × State) (end : Ending) → LinkRun (host_service d) n all answers w out new end → d.faults w.0 ≤ d.faults new.0

  after_rises : (n : ℕ) → Rises n → (rest : List ℕ) (answers : List (Option ℕ)) (w : D × State) (due : DueView) (out : List ℕ) (new : D × State) (end : Ending)
      → After (LinkRun (host_service d) n) rest answers w due out new end → d.faults w.0 ≤ d.faults new.0
  after_rises n rises rest answers w due out new end (After.torn bytes a are part same ends) = subst (λ (x : D × State). d.faults w.0 ≤ d.faults x.0) (sym same) (le_refl (d.faults w.0))
  after_rises n rises rest answers w due out new end (After.over closed a are same ends) = subst (λ (x : D × State). d.faults w.0 ≤ d.faults x.0) (sym same) (le_refl (d.faults w.0))
  after_rises n rises rest answers w due out new end (After.on bytes later open_still are is goes) = rises rest answers w later new end goes

  rises : (n : ℕ) → Rises n
  rises zero all answers w out new end run = absurd run
  rises (suc n) all answers w out new end (inl (stops, same)) = subst (λ (x : D × State). d.faults w.0 ≤ d.faults x.0) (sym same) (le_refl (d.faults w.0))
  rises (suc n) all answers w out new end (inr h) =
      le_trans (replies_rise (n == 0) all h.rest h.answer w h.interim h.mid h.due h.replies) (after_rises n (rises n) h.rest h.later h.mid h.due h.tail new end h.after)

  -- a reply after which a link goes on or ends well does not say that memory ran out
  plain_due : (n : ℕ) (rest : List ℕ) (answers : List (Option ℕ)) (w : D × State) (due : DueView) (out : List ℕ) (new : D × State) (end : Ending) → IsDone end
      → After (LinkRun (host_service d) n) rest answers w due out new end → due.said.memory ≡ false
  plain_due n rest answers w due out new end done (After.torn bytes a are part same ends) = absurd (subst IsDone ends done)
  plain_due n rest answers w due out new end done (After.over closed a are same ends) = not_memory_end due.said.memory end ends done
  plain_due n rest answers w due out new end done (After.on bytes later open_still are is goes) = neither due.said.memory due.manner.closes open_still

  unfailing_reply : (last : Bool) (all rest : List ℕ) (answer : Option ℕ) (w : D × State) (interim : List ℕ) (new : D × State) (due : DueView) → (HasRisen (d.faults w.0) (d.faults new.0) → ⊥) → due.said.memory ≡ false
      → Replies (host_service d) last all rest answer w interim new due → Replies (unfailing d) last all rest answer w interim new due
  unfailing_reply last all rest answer w interim new due still plain (Replies.refused refusal bodiless r none same is) = Replies.refused refusal bodiless r none same is
  unfailing_reply last all rest answer w interim new due still plain (Replies.answered head body moment said asks came line responds is) =
      Replies.answered head body moment said asks came line
      (record { responds = responds.0; still = still; plain = ap (λ (x : DueView). x.said.memory) (sym is) ∙ plain }) is

  abbrev Turns : ℕ → Type 0
  Turns n = (all : List ℕ) (answers : List (Option ℕ)) (w : D × State) (out : List ℕ) (new : D × State) (end : Ending) → IsDone end → (HasRisen (d.faults w.0) (d.faults new.0) → ⊥)
      → LinkRun (host_service d) n all answers w out new end → LinkRun (unfailing d) n all answers w out new end

  unfailing_after : (n : ℕ) → Turns n → (rest : List ℕ) (answers : List (Option ℕ)) (w : D × State) (due : DueView) (out : List ℕ) (new : D × State) (end : Ending) → IsDone end
      → (HasRisen (d.faults w.0) (d.faults new.0) → ⊥) → After (LinkRun (host_service d) n) rest answers w due out new end → After (LinkRun (unfailing d) n) rest answers w due out new end
  unfailing_after n turns rest answers w due out new end done still (After.torn bytes a are part same ends) = After.torn bytes a are part same ends
  unfailing_after n turns rest answers w due out new end done still (After.over closed a are same ends) = After.over closed a are same ends
  unfailing_after n turns rest answers w due out new end done still (After.on bytes later open_still are is goes) =
      After.on bytes later open_still are is (turns rest answers w later new end done still goes)

  pub unfailing_run : (n : ℕ) → Turns n
  unfailing_run zero all answers w out new end done still run = absurd run
  unfailing_run (suc n) all answers w out new end done still (inl stops) = inl stops
  unfailing_run (suc n) all answers w out new end done still (inr h) =
      let parts = still_both (d.faults w.0) (d.faults h.mid.0) (d.faults new.0) (replies_rise (n == 0) all h.rest h.answer w h.interim h.mid h.due h.replies)
      (after_rises n (rises n) h.rest h.later h.mid h.due h.tail new end h.after) still in
      inr (record {
        rest = h.rest;
        answer = h.answer;
        later = h.later;
        interim = h.interim;
        tail = h.tail;
        mid = h.mid;
        due = h.due;
        asked = h.asked;
        wrote = h.wrote;
        replies = unfailing_reply (n == 0) all h.rest h.answer w h.interim h.mid h.due parts.0 (plain_due n h.rest h.later h.mid h.due h.tail new end done h.after) h.replies;
        after = unfailing_after n (unfailing_run n) h.rest h.later h.mid h.due h.tail new end done parts.1 h.after;
      })
