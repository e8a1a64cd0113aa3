use Rattle.std.proofs.Common.{ℕ, ◌+◌, arith, ap, ◌∙◌, cond, length, nat_lt}
use Rattle.std.proofs.lemmas.List.{length_push}
use Rattle.bid_rules.specs.Goods.{order_of, utility}
use Rattle.estate_bounds.specs.Weighted.{weight}
use Rattle.estate_bounds.proofs.LightWeights.{replaced_at}
use Rattle.estate_bounds.proofs.ListSteps.{map_more}
use Rattle.estate_bounds.proofs.lightest.weights_with.Goals as goal

pub loop-k-preserved : goal.loop-k-preserved
loop-k-preserved c =
    let each = c.requires.each in
    let here = c.loop-k-test.true in
    let long = c.loop-k.invariant.long in
    let push = c.push.ensures.items in
    let f : ℕ → ℕ = λ player. cond (nat_lt 0 (utility c.args.case.now player (order_of c.args.case.now) c.args.owners.now)) c.args.number (weight c.args.weights.now player) in
    record {
      long = (let n = ap length push ∙ length_push c.loop-k.list.items c.replaced.result in omega arith);
      items = map_more f c.loop-k.list.items c.push.new.self.items 1 c.loop-k.k (c.loop-k.k + 1) c.replaced.result (omega arith) c.loop-k.invariant.items push
          (c.replaced.ensures ∙ replaced_at c.args.case.now c.args.owners.now c.args.weights.now _ c.args.number c.loop-k.k (c.as_array-low.ensures ∙ c.requires.lanes.is_low) c.requires.few (omega arith));
    }
