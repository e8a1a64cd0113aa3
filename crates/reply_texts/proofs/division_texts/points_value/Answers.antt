use Rattle.std.proofs.Common.{ap, ◌∙◌}
use Rattle.serde_json.specs.View.{view}
use Rattle.reply_texts.specs.Values.{of_number}
use Rattle.reply_texts.proofs.Ranges.{one_more}
use Rattle.reply_texts.proofs.division_texts.points_value.Goals as goal

pub loop-place-preserved : goal.loop-place-preserved
loop-place-preserved c = one_more view _ c.loop-place.place _ _ _ c.in_ok-push.ensures.items c.loop-place.invariant (c.from.ensures ∙ ap of_number c.points_of.ensures.value)
