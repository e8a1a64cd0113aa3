use Rattle.std.proofs.Common.{arith, ◌∙◌, ap}
use Rattle.std.specs.List.{range_with_len}
use Rattle.std.proofs.lemmas.Int.{ints}
use Rattle.bid_rules.specs.Sums.{total}
use Rattle.bid_rules.specs.Walks.{weight_at}
use Rattle.rent_maximin.proofs.prices.least_of.Goals as goal

pub returns : goal.returns
returns c =
    let a = c.welfare_of.ensures.value in
    let b = c.sum_of.ensures.value ∙ ap (λ k. total (weight_at c.args.walks.now) (range_with_len 0 k)) c.requires.walks_count in
    let d = c.welfare_of.ensures.small in
    let e = c.sum_of.ensures.small in
    record { is = omega (arith, ints, a, b, d, e); small = omega (arith, ints, d, e) }
