use Rattle.std.proofs.Common.{ap, ◌∙◌}
use Rattle.serde_json.specs.Written.{has_float}
use Rattle.reply_texts.proofs.PlainTexts.{plain_service}
use Rattle.reply_texts.proofs.refusals.written_refusal.Goals as goal

pub written-requires : goal.written-requires
written-requires c = ap has_float c.in_ok-value.ensures ∙ plain_service c.args.refusal.now
