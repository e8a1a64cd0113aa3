use Rattle.reply_texts.proofs.Literals.{memory_is}
use Rattle.reply_texts.proofs.refusals.memory_text.Goals as goal

pub returns : goal.returns
returns c = memory_is
