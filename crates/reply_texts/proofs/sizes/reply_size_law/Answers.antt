use Rattle.reply_texts.proofs.SizesOfSteps.{answer_short}
use Rattle.reply_texts.proofs.sizes.reply_size_law.Goals as goal

pub returns : goal.returns
returns c = answer_short c.key_law.ensures.digits c.key_law.ensures.length c.machine_law.ensures.origin
