use Rattle.std.proofs.Common.{rules, arith, ◌≡◌, List, ◌+◌, ◌<◌, ◌∙◌, ap, sym, length, get_or, subst}
use Rattle.std.specs.Prelude.{slice_index}
use Rattle.bid_rules.specs.Goods.{order_of}
use Rattle.nash_bounds.specs.declared.table.PointRow.{PointRow}
use Rattle.nash_bounds.specs.Lanes.{IsLaneRow}
use Rattle.nash_bounds.specs.Tables.{IsPointRow}
use Rattle.nash_bounds.proofs.SortedGoods.{order_length}
use Rattle.nash_bounds.proofs.LaneNumbers.{lane_row_more}
use Rattle.nash_bounds.proofs.lanes.lane_table.Goals as goal
use Rattle.bid_rules.specs.declared.limits.TheConstants.{ITEM_ROOM}

pub offset_bounds-deref-k : goal.offset_bounds-deref-k
offset_bounds-deref-k c =
    let n = ap length c.deref.ensures.0 in
    let t = c.requires.table.long in
    let o = ap length c.requires.order in
    let m = order_length c.args.case.now in
    let l = c.loop-k-test.true in
    let most = c.requires.case.facts.counts.3 in
    let h : c.loop-k.k < ITEM_ROOM = omega arith in
    search rules

pub bounds-deref-k : goal.bounds-deref-k
bounds-deref-k c =
    let n = ap length c.deref.ensures.0 in
    let t = c.requires.table.long in
    let o = ap length c.requires.order in
    let m = order_length c.args.case.now in
    let l = c.loop-k-test.true in
    omega arith

pub lane_row-requires-clause-row : goal.lane_row-requires-clause-row
lane_row-requires-clause-row c =
    let n = ap length c.deref.ensures.0 in
    let t = c.requires.table.long in
    let o = ap length c.requires.order in
    let m = order_length c.args.case.now in
    let l = c.loop-k-test.true in
    let res = c.index-deref-k.result in
    let at : res ≡ get_or c.args.table.now.rows.items c.loop-k.k res = c.index-deref-k.is ∙ ap (λ (xs : List PointRow). get_or xs c.loop-k.k res) c.deref.ensures.0 in
    let row = c.requires.table.each c.loop-k.k res (omega arith) in
    let row' = subst (λ (r : PointRow). IsPointRow c.args.case.now (slice_index (order_of c.args.case.now) c.loop-k.k) r) (sym at) row in
    subst (λ good. IsPointRow c.args.case.now good res) (ap (λ xs. get_or xs c.loop-k.k 0) (sym c.requires.order)) row'

pub push-requires : goal.push-requires
push-requires c =
    let n = ap length c.deref.ensures.0 in
    let t = c.requires.table.long in
    let o = ap length c.requires.order in
    let m = order_length c.args.case.now in
    let l = c.loop-k-test.true in
    let most = c.requires.case.facts.counts.3 in
    let long = c.loop-k.invariant.long in
    let few : length c.loop-k.rows.items < ITEM_ROOM = omega arith in
    search rules

pub loop-k-preserved : goal.loop-k-preserved
loop-k-preserved c =
    record {
      long = c.push.ensures.len ∙ ap (λ n. n + 1) c.loop-k.invariant.long;
      each = lane_row_more c.args.case.now c.loop-k.rows.items c.push.new.self.items c.lane_row.result c.loop-k.k c.loop-k.invariant.long c.push.ensures.items
          (subst (λ good. IsLaneRow c.args.case.now good c.lane_row.result) (ap (λ xs. get_or xs c.loop-k.k 0) c.requires.order) c.lane_row.ensures) c.loop-k.invariant.each;
    }

pub returns : goal.returns
returns c =
    let end = c.loop-k-test.false in
    let last = c.loop-k.auto.k-end in
    let long : length c.args.order.now ≡ c.args.case.now.facts.goods = ap length c.requires.order ∙ order_length c.args.case.now in
    let all : c.loop-k.k ≡ c.args.case.now.facts.goods = omega arith in
    record {
      few = c.requires.few;
      long = c.loop-k.invariant.long ∙ all;
      each = λ place other l. c.loop-k.invariant.each place other (omega arith);
    }
