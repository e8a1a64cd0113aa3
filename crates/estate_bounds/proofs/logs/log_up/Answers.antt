use Rattle.std.proofs.Common.{◌+◌, ap, ◌∙◌, cond, nat_lt}
use Rattle.estate_bounds.specs.declared.limits.TheConstants.{ONE}
use Rattle.estate_bounds.specs.declared.logs.Power.{Power}
use Rattle.estate_bounds.proofs.PowerFits.{up_is}
use Rattle.estate_bounds.proofs.logs.log_up.Goals as goal

pub returns-clause-value : goal.returns-clause-value
returns-clause-value c =
    ap (λ n. c.power_of-power.result.exponent + n) c.above_one.ensures.value ∙ ap (λ (p : Power). p.exponent + cond (nat_lt ONE p.significand) 1 0) c.power_of-power.ensures.value ∙ up_is c.args.number
