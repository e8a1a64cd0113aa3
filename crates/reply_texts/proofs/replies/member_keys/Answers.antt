use Rattle.std.proofs.Common.{ℕ, ◌+◌, ◌∙◌, ap, length, length-append}
use Rattle.reply_texts.specs.Values.{of_text}
use Rattle.reply_texts.proofs.Ranges.{one_more}
use Rattle.reply_texts.proofs.replies.member_keys.Goals as goal

pub loop-place-preserved : goal.loop-place-preserved
loop-place-preserved c = record {
  keys = one_more of_text _ c.loop-place.place _ _ _ c.push.ensures.items c.loop-place.invariant.keys (ap of_text c.key_of.ensures);
  count = ap length c.push.ensures.items ∙ length-append _ _ ∙ ap (λ (n : ℕ). n + 1) c.loop-place.invariant.count;
}
