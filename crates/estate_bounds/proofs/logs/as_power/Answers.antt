use Rattle.std.proofs.Common.{◌≡◌, ℕ, ◌*◌, ◌^◌, ◌≤◌, arith, ap, ◌∙◌, subst, sym}
use Rattle.estate_bounds.specs.declared.limits.TheConstants.{LOG_BITS, MOST_LOG, ONE}
use Rattle.estate_bounds.specs.declared.logs.Power.{Power}
use Rattle.estate_bounds.specs.Logs.{as_power, halved}
use Rattle.estate_bounds.proofs.PowerFits.{as_done, as_first, as_fits, as_next}
use Rattle.estate_bounds.proofs.logs.as_power.Goals as goal

pub loop-bit-init : goal.loop-bit-init
loop-bit-init c = ap (λ (n : ℕ). let q : Power = record { significand = n * ONE; exponent = 0 } in q) c.from.ensures ∙ as_first c.args.rounding c.args.number

pub halved-power-requires-clause-significand : goal.halved-power-requires-clause-significand
halved-power-requires-clause-significand c =
    subst (λ (p : Power). p.significand ≤ 2 ^ 126) (sym c.loop-bit.invariant) (as_fits c.args.rounding c.args.number c.loop-bit._bit c.requires.rounding c.requires.number (let l = c.loop-bit-test.true in omega arith)).0

pub halved-power-requires-clause-exponent : goal.halved-power-requires-clause-exponent
halved-power-requires-clause-exponent c =
    let l = c.loop-bit-test.true in
    let h = (as_fits c.args.rounding c.args.number c.loop-bit._bit c.requires.rounding c.requires.number (omega arith)).1 in
    subst (λ (p : Power). p.exponent ≤ MOST_LOG) (sym c.loop-bit.invariant) (omega arith)

pub loop-bit-preserved : goal.loop-bit-preserved
loop-bit-preserved c = c.halved-power.ensures ∙ ap (halved c.args.rounding) c.loop-bit.invariant ∙ as_next c.args.rounding c.args.number c.loop-bit._bit

pub returns-clause-significand : goal.returns-clause-significand
returns-clause-significand c =
    let end : c.loop-bit._bit ≡ LOG_BITS = (let a = c.loop-bit-test.false in let b = c.loop-bit.auto._bit-end in omega arith) in
    subst (λ (p : Power). p.significand ≤ 2 * ONE) (sym (c.loop-bit.invariant ∙ ap (as_power c.args.rounding c.args.number) end)) (as_done c.args.rounding c.args.number c.requires.rounding c.requires.number).0

pub returns-clause-exponent : goal.returns-clause-exponent
returns-clause-exponent c =
    let end : c.loop-bit._bit ≡ LOG_BITS = (let a = c.loop-bit-test.false in let b = c.loop-bit.auto._bit-end in omega arith) in
    subst (λ (p : Power). p.exponent ≤ LOG_BITS) (sym (c.loop-bit.invariant ∙ ap (as_power c.args.rounding c.args.number) end)) (as_done c.args.rounding c.args.number c.requires.rounding c.requires.number).1
