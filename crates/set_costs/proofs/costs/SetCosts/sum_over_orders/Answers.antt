use Rattle.std.proofs.Common.{arith, ◌≤◌, ◌∙◌, ap, sym, subst, unsigned_abs, to_z, of_z}
use Rattle.std.specs.Int.{w128}
use Rattle.bid_rules.specs.FareLimits.{most_sum}
use Rattle.split_lemmas.proofs.WideNumbers.{kept_whole}
use Rattle.set_costs.proofs.SetSums.{kept_whole as short, sum_small}
use Rattle.set_costs.proofs.costs.SetCosts.sum_over_orders.Goals as goal

pub returns-clause-fits : goal.returns-clause-fits
returns-clause-fits c =
    let most = c.len.ensures.fits in
    let small = sum_small c.sum_over_orders.result c.len.result c.sum_over_orders.ensures.small (omega (arith, most)) in
    subst (λ z. unsigned_abs z ≤ most_sum) (sym (ap (λ z. to_z w128 (of_z w128 z)) (c.from.ensures ∙ short c.sum_over_orders.result (omega (arith, small))) ∙ kept_whole c.sum_over_orders.result (omega (arith, small)))) small
