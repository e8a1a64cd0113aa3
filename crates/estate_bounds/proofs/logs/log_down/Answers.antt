use Rattle.std.proofs.Common.{ap, ◌∙◌}
use Rattle.estate_bounds.specs.declared.logs.Power.{Power}
use Rattle.estate_bounds.proofs.PowerFits.{down_is}
use Rattle.estate_bounds.proofs.logs.log_down.Goals as goal

pub returns-clause-value : goal.returns-clause-value
returns-clause-value c = ap (λ (p : Power). p.exponent) c.power_of.ensures.value ∙ down_is c.args.number
