use Rattle.std.proofs.Common.{◌≡◌, ◌+◌, ◌*◌, arith, ◌∙◌, get_or, refl}
use Rattle.bid_rules.specs.Goods.{order_of, utility}
use Rattle.nash_bounds.specs.Lanes.{has}
use Rattle.estate_bounds.specs.Weighted.{weight}
use Rattle.estate_bounds.proofs.TopSteps.{sum_more, term_at}
use Rattle.estate_bounds.proofs.prices.paid.Goals as goal

pub loop-k-preserved : goal.loop-k-preserved
loop-k-preserved c =
    let each = c.requires.each in
    let here = c.loop-k-test.true in
    let small = c.loop-k.invariant.small in
    let term = c.payment-sum.ensures.small in
    record {
      value = sum_more (λ p. weight c.args.rates.now p * utility c.args.case.now p (order_of c.args.case.now) c.args.owners.now) c.loop-k.k c.payment-sum.result c.loop-k.sum _ c.loop-k.invariant.value
          (term_at (has c.args.case.now c.args.owners.now) c.args.case.now c.args.rates.now _ c.loop-k.k c.payment-sum.result (c.as_array-low.ensures ∙ c.requires.lanes.is_low) c.requires.few (omega arith)
          (c.payment-sum.ensures.value ∙ omega arith)) refl;
      small = omega arith;
    }
