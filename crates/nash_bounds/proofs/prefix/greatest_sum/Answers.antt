use Rattle.std.proofs.Common.{arith, ◌≡◌, subst}
use Rattle.std.specs.List.{range_with_len, sum_by}
use Rattle.bid_rules.specs.Goods.{greatest_points}
use Rattle.nash_bounds.proofs.LongerPrefixes.{sum_range_more}
use Rattle.nash_bounds.proofs.prefix.greatest_sum.Goals as goal

pub loop-k-preserved : goal.loop-k-preserved
loop-k-preserved c =
    let e = c.greatest-sum.ensures.value in
    let s = c.greatest-sum.ensures.small in
    let a = c.loop-k.invariant.0 in
    let b = c.loop-k.invariant.1 in
    let m = sum_range_more (greatest_points c.args.case.now) c.loop-k.k in
    (omega arith, omega arith)

pub returns : goal.returns
returns c =
    let k : c.loop-k.k ≡ c.args.case.now.facts.goods = (let f = c.loop-k-test.false in let g = c.loop-k.auto.k-end in omega arith) in
    subst (λ n. c.loop-k.sum ≡ sum_by (greatest_points c.args.case.now) (range_with_len 1 n)) k c.loop-k.invariant.0
