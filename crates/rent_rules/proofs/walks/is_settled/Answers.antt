use Rattle.std.proofs.Common.{arith, ℕ, ◌+ℤ◌, ◌≤ℤ◌, below_more}
use Rattle.std.proofs.lemmas.Int.{ints}
use Rattle.bid_rules.specs.Maximin.{value_step}
use Rattle.bid_rules.specs.Walks.{weight_at}
use Rattle.rent_rules.proofs.walks.is_settled.Goals as goal

pub loop-from-preserved : goal.loop-from-preserved
loop-from-preserved c = below_more (λ (k : ℕ). (weight_at c.args.walks.now k +ℤ value_step c.args.case.now c.args.rooms.now k c.args.to) ≤ℤ weight_at c.args.walks.now c.args.to) c.loop-from.from c.loop-from.invariant
    (omega (arith, ints, c.led_to.ensures.value, c.if-led_to-walks.false))
