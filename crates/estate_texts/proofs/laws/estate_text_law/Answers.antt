use Rattle.estate_texts.proofs.OneView.{view_once}
use Rattle.estate_texts.proofs.laws.estate_text_law.Goals as goal

pub returns : goal.returns
returns c bytes view other one same = view_once (record { plain = c.numbers_law.ensures.plain; once = c.numbers_law.ensures.once }) bytes view other one same
