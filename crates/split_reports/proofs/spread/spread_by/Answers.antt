use Rattle.std.proofs.Common.{length, ◌+◌, get_or, sym, ap, ◌∙◌, refl, arith}
use Rattle.split_reports.proofs.Spreading.{next_sum, share_at, share_none, share_rises, shares_more, shares_none}
use Rattle.split_reports.proofs.spread.spread_by.Goals as goal

pub loop-weight-init : goal.loop-weight-init
loop-weight-init c = record {
  upto = refl;
  given = sym (share_none c.args.whole c.args.weights.now.items c.requires.some);
  values = c.new-values.ensures ∙ sym (shares_none c.args.whole c.args.weights.now.items);
  size = ap length c.new-values.ensures;
}

pub overflow_sub-share : goal.overflow_sub-share
overflow_sub-share c =
    let i = c.loop-weight.weight-index in
    let weights = c.args.weights.now.items in
    let upto = next_sum c.as_slice-weight-items.result.now weights i c.loop-weight.upto c.as_slice-weight-items.ensures.value c.loop-weight-test.true c.loop-weight.invariant.upto in
    let share = c.part_of-share.ensures ∙ share_at c.args.whole c.sum_of-total.result (c.loop-weight.upto + get_or c.as_slice-weight-items.result.now i 0) (i + 1) weights c.sum_of-total.ensures upto in
    omega (arith, share, c.loop-weight.invariant.given, share_rises c.args.whole weights i c.requires.some)

pub loop-weight-preserved : goal.loop-weight-preserved
loop-weight-preserved c =
    let i = c.loop-weight.weight-index in
    let weights = c.args.weights.now.items in
    let upto = next_sum c.as_slice-weight-items.result.now weights i c.loop-weight.upto c.as_slice-weight-items.ensures.value c.loop-weight-test.true c.loop-weight.invariant.upto in
    let share = c.part_of-share.ensures ∙ share_at c.args.whole c.sum_of-total.result (c.loop-weight.upto + get_or c.as_slice-weight-items.result.now i 0) (i + 1) weights c.sum_of-total.ensures upto in
    record {
      upto = upto;
      given = share;
      values = let more = shares_more c.args.whole weights i in cc (more, share);
      size = omega (arith, c.push.ensures.len, c.loop-weight.invariant.size);
    }
