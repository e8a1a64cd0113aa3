use Rattle.std.proofs.Common.{arith, ◌≡◌, ℕ, pos, ◌+◌, ◌-◌, ◌+ℤ◌, ◌≤ℤ◌, subst, get_or, IsTrue, below_more, false}
use Rattle.std.proofs.lemmas.Int.{ints}
use Rattle.bid_rules.specs.Keys.{key}
use Rattle.rent_rules.proofs.keys.is_above.Goals as goal

pub returns-then-plus-key_of : goal.returns-then-plus-key_of
returns-then-plus-key_of c = (
  λ (h : IsTrue false). absurd (cc),
  λ h.
      let k : ℕ = c.loop-room.room in
      let same : k + 1 - 1 ≡ k = omega arith in
      let here = subst (λ (i : ℕ). key c.args.case.now c.args.member (k + 1) ≤ℤ (get_or c.args.left.now c.args.member (pos 0) +ℤ get_or c.args.right.now i (pos 0))) same
      (h (k + 1) (omega arith) (let test = c.loop-room-test.true in let each = c.requires.each in omega arith)) in
      absurd (omega (arith, ints, here, c.plus.ensures.value, c.key_of.ensures.value, c.if-plus-key_of.true)),
)

pub loop-room-preserved : goal.loop-room-preserved
loop-room-preserved c = below_more (λ (i : ℕ). key c.args.case.now c.args.member (i + 1) ≤ℤ (get_or c.args.left.now c.args.member (pos 0) +ℤ get_or c.args.right.now i (pos 0))) c.loop-room.room c.loop-room.invariant
    (omega (arith, ints, c.plus.ensures.value, c.key_of.ensures.value, c.if-plus-key_of.false))
