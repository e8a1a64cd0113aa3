use Rattle.std.proofs.Common.{◌≡◌, ◌+◌, ◌*◌, arith, ◌∙◌, subst, map, fold, max}
use Rattle.std.specs.List.{range_with_len}
use Rattle.bid_rules.specs.Goods.{player_count, points}
use Rattle.estate_bounds.specs.Weighted.{weight}
use Rattle.estate_bounds.proofs.PriceSteps.{paid_at}
use Rattle.estate_bounds.proofs.TopSteps.{most_more}
use Rattle.estate_bounds.proofs.prices.highest_price.Goals as goal

pub loop-k-preserved : goal.loop-k-preserved
loop-k-preserved c =
    let rates = c.requires.prices.rates_each in
    let fees = c.requires.prices.fees_each in
    let here = c.loop-k-test.true in
    let small = c.loop-k.invariant.small in
    let price = c.payment.ensures.small in
    let is = c.max-most.ensures in
    record {
      value = λ good row. most_more (λ p. weight c.args.rates.now p * points c.args.case.now p good + weight c.args.fees.now p) c.loop-k.k c.payment.result c.loop-k.most c.max-most.result (c.loop-k.invariant.value good row)
          (paid_at (λ player. points c.args.case.now player good) c.args.case.now c.args.rates.now c.args.fees.now _ c.loop-k.k c.payment.result (c.as_array-points.ensures ∙ row.is_points) c.requires.few (omega arith)
          c.payment.ensures.value) is;
      small = omega arith;
    }

pub returns-clause-value : goal.returns-clause-value
returns-clause-value c good row =
    let each = c.requires.prices.rates_each in
    let k : c.loop-k.k ≡ player_count c.args.case.now = (let f = c.loop-k-test.false in let g = c.loop-k.auto.k-end in omega arith) in
    subst (λ n. c.loop-k.most ≡ fold max 0 (map (λ p. weight c.args.rates.now p * points c.args.case.now p good + weight c.args.fees.now p) (range_with_len 1 n))) k (c.loop-k.invariant.value good row)
