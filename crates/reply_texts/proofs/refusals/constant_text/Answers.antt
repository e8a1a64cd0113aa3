use Rattle.std.proofs.Common.{ℕ, List, Bor, ap, sym, ◌∙◌}
use Rattle.reply_texts.specs.Refusals.{service_text}
use Rattle.reply_texts.proofs.Literals.{bad_head_is, bad_host_is, bad_length_is, body_too_large_is, clock_fault_is, framing_is, length_missing_is, memory_is, method_is, no_audit_is, no_route_is, not_two_is, store_fault_is}
use Rattle.reply_texts.proofs.refusals.constant_text.Goals.{in-BadHead, in-ClockFault, in-BadHost, in-Framing, in-BadLength, in-LengthMissing, in-BodyTooLarge, in-NoRoute, in-Method, in-StoreFault, in-NoAudit, in-NotTwo, in-Memory}
use Rattle.reply_texts.proofs.refusals.constant_text.Goals as goal

pub returns-clause-text : goal.returns-clause-text
returns-clause-text c =
    elim c.match-refusal.branch [
      | in-BadHead w ↦ ap (λ (b : Bor (List ℕ)). b.now) w.text-is ∙ bad_head_is ∙ ap service_text (sym w.in-BadHead.is)
      | in-ClockFault w ↦ ap (λ (b : Bor (List ℕ)). b.now) w.text-is ∙ clock_fault_is ∙ ap service_text (sym w.in-ClockFault.is)
      | in-BadHost w ↦ ap (λ (b : Bor (List ℕ)). b.now) w.text-is ∙ bad_host_is ∙ ap service_text (sym w.in-BadHost.is)
      | in-Framing w ↦ ap (λ (b : Bor (List ℕ)). b.now) w.text-is ∙ framing_is ∙ ap service_text (sym w.in-Framing.is)
      | in-BadLength w ↦ ap (λ (b : Bor (List ℕ)). b.now) w.text-is ∙ bad_length_is ∙ ap service_text (sym w.in-BadLength.is)
      | in-LengthMissing w ↦ ap (λ (b : Bor (List ℕ)). b.now) w.text-is ∙ length_missing_is ∙ ap service_text (sym w.in-LengthMissing.is)
      | in-BodyTooLarge w ↦ ap (λ (b : Bor (List ℕ)). b.now) w.text-is ∙ body_too_large_is ∙ ap service_text (sym w.in-BodyTooLarge.is)
      | in-NoRoute w ↦ ap (λ (b : Bor (List ℕ)). b.now) w.text-is ∙ no_route_is ∙ ap service_text (sym w.in-NoRoute.is)
      | in-Method w ↦ ap (λ (b : Bor (List ℕ)). b.now) w.text-is ∙ method_is ∙ ap service_text (sym w.in-Method.is)
      | in-StoreFault w ↦ ap (λ (b : Bor (List ℕ)). b.now) w.text-is ∙ store_fault_is ∙ ap service_text (sym w.in-StoreFault.is)
      | in-NoAudit w ↦ ap (λ (b : Bor (List ℕ)). b.now) w.text-is ∙ no_audit_is ∙ ap service_text (sym w.in-NoAudit.is)
      | in-NotTwo w ↦ ap (λ (b : Bor (List ℕ)). b.now) w.text-is ∙ not_two_is ∙ ap service_text (sym w.in-NotTwo.is)
      | in-Memory w ↦ ap (λ (b : Bor (List ℕ)). b.now) w.text-is ∙ memory_is ∙ ap service_text (sym w.in-Memory.is)
    ]
