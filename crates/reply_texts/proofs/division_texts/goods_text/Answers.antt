use Rattle.std.proofs.Common.{ap, ◌∙◌}
use Rattle.serde_json.specs.Written.{has_float}
use Rattle.reply_texts.proofs.PlainTexts.{plain_goods}
use Rattle.reply_texts.proofs.division_texts.goods_text.Goals as goal

pub written-requires : goal.written-requires
written-requires c = ap has_float c.in_ok-value.ensures ∙ plain_goods c.args.case.now c.args.division.now
