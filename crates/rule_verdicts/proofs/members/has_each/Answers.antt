use Rattle.std.proofs.Common.{arith, ℕ, ◌≡◌, ◌+◌, ◌-◌, Contains, subst, below_more, refl}
use Rattle.rule_verdicts.proofs.members.has_each.Goals as goal

pub loop-number-preserved : goal.loop-number-preserved
loop-number-preserved c = below_more (λ (i : ℕ). Contains c.args.numbers.now (i + 1)) c.loop-number.number c.loop-number.invariant (c.has_number.ensures.0 c.if-not-has_number.false)

pub returns : goal.returns
returns c = (
  λ _ number low high. let there : Contains c.args.numbers.now ((number - 1) + 1) = c.loop-number.invariant (number - 1) (let end = c.loop-number-test.false in omega arith) in
      subst (Contains c.args.numbers.now) (let e : (number - 1) + 1 ≡ number = omega arith in e) there,
  λ _. refl,
)
