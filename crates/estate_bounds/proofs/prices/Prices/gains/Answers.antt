use Rattle.std.proofs.Common.{◌≡◌, ℕ, ◌+◌, ◌*◌, ◌<◌, ◌≤◌, List, arith, ap, ◌∙◌, get_or, refl, sym}
use Rattle.bid_rules.specs.Goods.{player_count}
use Rattle.estate_bounds.specs.Prices.{gain}
use Rattle.estate_bounds.specs.Weighted.{weight}
use Rattle.estate_bounds.specs.declared.limits.TheConstants.{MOST_LOG}
use Rattle.estate_bounds.proofs.TopSteps.{sum_more, weight_at}
use Rattle.estate_bounds.proofs.prices.Prices.gains.Goals as goal

pub loop-k-preserved : goal.loop-k-preserved
loop-k-preserved c =
    let case = c.args.case.now in
    let owners = c.args.owners.now in
    let k = c.loop-k.k in
    let rates = c.args.self.now.rates.items in
    let fees = c.args.self.now.fees.items in
    let small = c.loop-k.invariant.small in
    let more = c.gain-sum.ensures.small in
    let rate : get_or c.deref.result.now k 0 ≡ weight rates (k + 1) = ap (λ (xs : List ℕ). get_or xs k 0) c.deref.ensures.0 ∙ sym (weight_at rates k) in
    let fee : get_or c.deref-in-loop-k.result.now k 0 ≡ weight fees (k + 1) = ap (λ (xs : List ℕ). get_or xs k 0) c.deref-in-loop-k.ensures.0 ∙ sym (weight_at fees k) in
    record {
      small = omega arith;
      value = sum_more (λ player. gain case owners (weight rates player) (weight fees player) player) k c.gain-sum.result c.loop-k.sum (c.loop-k.sum + c.gain-sum.result) c.loop-k.invariant.value
          (c.gain-sum.ensures.value ∙ ap (λ r. gain case owners r (get_or c.deref-in-loop-k.result.now k 0) (k + 1)) rate ∙ ap (λ f. gain case owners (weight rates (k + 1)) f (k + 1)) fee) refl;
    }
