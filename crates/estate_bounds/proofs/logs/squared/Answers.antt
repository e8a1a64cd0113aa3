use Rattle.std.proofs.Common.{◌∙◌}
use Rattle.estate_bounds.proofs.PowerFits.{is_squared}
use Rattle.estate_bounds.proofs.logs.squared.Goals as goal

pub returns : goal.returns
returns c = c.halved.ensures ∙ is_squared c.args.rounding c.args.power
