use Rattle.std.proofs.Common.{ap, ◌∙◌}
use Rattle.serde_json.specs.Written.{has_float}
use Rattle.reply_texts.proofs.PlainTexts.{plain_rent}
use Rattle.reply_texts.proofs.division_texts.rent_text.Goals as goal

pub written-requires : goal.written-requires
written-requires c = ap has_float c.in_ok-value.ensures ∙ plain_rent c.args.case.now c.args.division.now
