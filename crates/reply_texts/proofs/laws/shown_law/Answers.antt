use Rattle.reply_texts.proofs.Sealed.{text_shown}
use Rattle.reply_texts.proofs.laws.shown_law.Goals as goal

pub returns : goal.returns
returns c = text_shown
