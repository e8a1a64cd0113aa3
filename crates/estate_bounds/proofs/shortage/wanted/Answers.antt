use Rattle.std.proofs.Common.{arith}
use Rattle.std.specs.List.{count_by}
use Rattle.bid_rules.specs.Goods.{order_of}
use Rattle.estate_bounds.specs.Counts.{is_wanted}
use Rattle.estate_bounds.proofs.ListSteps.{count_all, count_more}
use Rattle.estate_bounds.proofs.NextOwners.{order_length}
use Rattle.estate_bounds.proofs.shortage.wanted.Goals as goal

pub loop-place-preserved : goal.loop-place-preserved
loop-place-preserved c =
    let long = order_length c.args.case.now in
    let rows = c.requires.table.long in
    let here = c.loop-place-test.true in
    let end = c.len-place-end.ensures.value in
    let small = c.loop-place.invariant.small in
    let more = c.wanted_at-count.ensures.small in
    record {
      small = omega arith;
      value = count_more (is_wanted c.args.case.now c.args.players.now) (order_of c.args.case.now) c.loop-place.place c.loop-place.count c.wanted_at-count.result
          (count_by (is_wanted c.args.case.now c.args.players.now) (order_of c.args.case.now)) (omega arith) c.wanted_at-count.ensures.value c.loop-place.invariant.value;
    }

pub returns-clause-value : goal.returns-clause-value
returns-clause-value c =
    let long = order_length c.args.case.now in
    let rows = c.requires.table.long in
    let past = c.loop-place-test.false in
    let end = c.len-place-end.ensures.value in
    count_all (is_wanted c.args.case.now c.args.players.now) (order_of c.args.case.now) c.loop-place.place c.loop-place.count
    (count_by (is_wanted c.args.case.now c.args.players.now) (order_of c.args.case.now)) (omega arith) c.loop-place.invariant.value
