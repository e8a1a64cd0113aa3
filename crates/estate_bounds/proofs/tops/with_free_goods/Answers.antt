use Rattle.std.proofs.Common.{◌<◌, ◌++◌, arith, ap, ◌∙◌, length, map, slice_index}
use Rattle.std.proofs.lemmas.List.{length_push}
use Rattle.bid_rules.specs.declared.limits.TheConstants.{MEMBER_ROOM}
use Rattle.bid_rules.specs.Goods.{order_of}
use Rattle.nash_bounds.specs.Prefixes.{free_goods}
use Rattle.estate_bounds.specs.Weighted.{most_weighted}
use Rattle.estate_bounds.proofs.ListSteps.{free_all, free_more}
use Rattle.estate_bounds.proofs.NextOwners.{free_count, order_length}
use Rattle.estate_bounds.proofs.TopSteps.{row_at}
use Rattle.estate_bounds.proofs.tops.with_free_goods.Goals as goal

pub push-requires : goal.push-requires
push-requires c =
    let free = free_count c.args.case.now c.args.owners.now in
    let room = c.requires.room in
    let rows = c.requires.table.long in
    let here = c.loop-place-test.true in
    let end = c.len-place-end.ensures.value in
    let long = c.loop-place.invariant.long in
    let low = c.loop-place.auto.place in
    let fits : length c.loop-place.longer.items < MEMBER_ROOM = omega arith in
    (omega arith, fits)

pub loop-place-preserved : goal.loop-place-preserved
loop-place-preserved c =
    let order = order_length c.args.case.now in
    let rows = c.requires.table.long in
    let here = c.loop-place-test.true in
    let end = c.len-place-end.ensures.value in
    let long = c.loop-place.invariant.long in
    let low = c.loop-place.auto.place in
    let push = c.push.ensures.items in
    record {
      long = (let n = ap length push ∙ length_push c.loop-place.longer.items c.most_weighted.result in omega arith);
      items = free_more (most_weighted c.args.case.now c.args.weights.now) (order_of c.args.case.now) c.loop-place.place c.most_weighted.result c.loop-place.longer.items c.push.new.self.items
          (c.args.list.items ++ map (most_weighted c.args.case.now c.args.weights.now) (free_goods c.args.case.now c.args.owners.now)) (omega arith)
          (c.most_weighted.ensures.value (slice_index (order_of c.args.case.now) c.loop-place.place) (row_at c.args.case.now c.args.table.now _ c.loop-place.place _ c.requires.table (omega arith) c.deref.ensures.0))
          push c.loop-place.invariant.items;
    }

pub returns : goal.returns
returns c =
    let order = order_length c.args.case.now in
    let rows = c.requires.table.long in
    let past = c.loop-place-test.false in
    let end = c.len-place-end.ensures.value in
    free_all (most_weighted c.args.case.now c.args.weights.now) (order_of c.args.case.now) c.loop-place.place c.loop-place.longer.items
    (c.args.list.items ++ map (most_weighted c.args.case.now c.args.weights.now) (free_goods c.args.case.now c.args.owners.now)) (omega arith) c.loop-place.invariant.items
