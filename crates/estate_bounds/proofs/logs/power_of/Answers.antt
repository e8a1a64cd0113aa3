use Rattle.std.proofs.Common.{◌≡◌, ◌+◌, ◌*◌, ◌<◌, ◌≤◌, arith, ap, ◌∙◌, subst, sym}
use Rattle.estate_bounds.specs.declared.limits.TheConstants.{MOST_LOG, ONE, SQUARINGS}
use Rattle.estate_bounds.specs.declared.logs.Power.{Power}
use Rattle.estate_bounds.specs.Logs.{power_after, squared}
use Rattle.estate_bounds.proofs.PowerFits.{after_done, after_first, after_fits, after_next}
use Rattle.estate_bounds.proofs.logs.power_of.Goals as goal

pub loop-squaring-init : goal.loop-squaring-init
loop-squaring-init c = c.as_power-power.ensures.value ∙ after_first c.args.rounding c.args.number

pub squared-power-requires-clause-significand : goal.squared-power-requires-clause-significand
squared-power-requires-clause-significand c =
    subst (λ (p : Power). p.significand ≤ 2 * ONE) (sym c.loop-squaring.invariant) (after_fits c.args.rounding c.args.number c.loop-squaring._squaring c.requires.rounding c.requires.number (let l = c.loop-squaring-test.true in omega arith)).0

pub squared-power-requires-clause-exponent : goal.squared-power-requires-clause-exponent
squared-power-requires-clause-exponent c =
    subst (λ (p : Power). 2 * p.exponent ≤ MOST_LOG) (sym c.loop-squaring.invariant) (after_fits c.args.rounding c.args.number c.loop-squaring._squaring c.requires.rounding c.requires.number (let l = c.loop-squaring-test.true in omega arith)).1

pub loop-squaring-preserved : goal.loop-squaring-preserved
loop-squaring-preserved c = c.squared-power.ensures ∙ ap (squared c.args.rounding) c.loop-squaring.invariant ∙ after_next c.args.rounding c.args.number c.loop-squaring._squaring

pub returns-clause-exponent : goal.returns-clause-exponent
returns-clause-exponent c =
    let end : c.loop-squaring._squaring ≡ SQUARINGS = (let a = c.loop-squaring-test.false in let b = c.loop-squaring.auto._squaring-end in omega arith) in
    subst (λ (p : Power). p.exponent + 1 ≤ MOST_LOG) (sym (c.loop-squaring.invariant ∙ ap (power_after c.args.rounding c.args.number) end)) (after_done c.args.rounding c.args.number c.requires.rounding c.requires.number)
