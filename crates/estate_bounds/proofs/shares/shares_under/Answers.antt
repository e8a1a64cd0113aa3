use Rattle.std.proofs.Common.{◌<◌, arith, ◌∙◌, nat_lt}
use Rattle.bid_rules.specs.Goods.{player_count}
use Rattle.nash_bounds.specs.Lanes.{has}
use Rattle.estate_bounds.proofs.ListSteps.{filter_more}
use Rattle.estate_bounds.proofs.TopSteps.{by_lane_at}
use Rattle.estate_bounds.proofs.shares.shares_under.Goals as goal

pub loop-k-preserved : goal.loop-k-preserved
loop-k-preserved c =
    let few = c.loop-k.invariant.few in
    let more = c.push_positive.ensures.few in
    let here : c.loop-k.k < player_count c.args.case.now = (let a = c.loop-k-test.true in let b = c.players.ensures.value in let d = c.from-k-end.ensures in omega arith) in
    record {
      few = omega arith;
      items = filter_more (nat_lt 0) (has c.args.case.now c.args.owners.now) c.loop-k.shares.items c.push_positive.new.shares.items c.loop-k.k _ c.loop-k.invariant.items c.push_positive.ensures.items
          (by_lane_at (has c.args.case.now c.args.owners.now) c.args.case.now _ c.loop-k.k (c.as_array-low.ensures ∙ c.requires.lanes.is_low) c.requires.few here);
    }
