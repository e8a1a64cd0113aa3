use Rattle.std.proofs.Common.{◌/◌, ◌<◌, arith, ap, ◌∙◌, length}
use Rattle.std.proofs.lemmas.List.{length_push}
use Rattle.bid_rules.specs.Goods.{player_count}
use Rattle.estate_bounds.proofs.ListSteps.{mapped_more}
use Rattle.estate_bounds.proofs.TopSteps.{by_lane_at}
use Rattle.estate_bounds.proofs.units.in_units.Goals as goal

pub loop-k-preserved : goal.loop-k-preserved
loop-k-preserved c =
    let long = c.loop-k.invariant.long in
    let push = c.push.ensures.items in
    let here : c.loop-k.k < player_count c.args.case.now = (let a = c.loop-k-test.true in let b = c.players.ensures.value in let d = c.from-k-end.ensures in omega arith) in
    record {
      long = (let n = ap length push ∙ length_push c.loop-k.list.items (c.from.result / c.args.unit) in omega arith);
      items = λ f is. mapped_more (λ n. n / c.args.unit) f c.loop-k.list.items c.push.new.self.items c.loop-k.k (c.from.result / c.args.unit) (c.loop-k.invariant.items f is) push
          (ap (λ n. n / c.args.unit) (c.from.ensures ∙ by_lane_at f c.args.case.now _ c.loop-k.k (c.as_array-lanes.ensures ∙ is) c.requires.few here));
    }
