use Rattle.std.proofs.Common.{length, ◌≡◌, ◌*◌, sym, ap, ◌∙◌, arith, sum}
use Rattle.split_reports.specs.TrialDraws.{after}
use Rattle.split_reports.proofs.Drawing.{after_none, row_draws, rows_none, rows_step}
use Rattle.split_reports.proofs.WeightSums.{weights_high, weights_low}
use Rattle.split_reports.specs.TrialSpreads.{spread}
use Rattle.split_reports.proofs.trials.draw_rows.Goals as goal

pub loop-init : goal.loop-init
loop-init c = record {
  rows = c.new-table.ensures ∙ sym (rows_none c.args.draws.now.last c.args.columns c.args.whole);
  last =
      let none : c.args.columns * 0 ≡ 0 = omega arith in
      sym (ap (λ n. after n c.args.draws.now.last) none ∙ after_none c.args.draws.now.last);
  size = ap length c.new-table.ensures;
}

pub spread_by-requires-clause-some : goal.spread_by-requires-clause-some
spread_by-requires-clause-some c =
    let low = weights_low c.loop.draws.last c.args.columns in
    omega (arith, low, ap sum c.weights-weights.ensures.weights, c.requires.some)

pub spread_by-requires-clause-few : goal.spread_by-requires-clause-few
spread_by-requires-clause-few c =
    let high = weights_high c.loop.draws.last c.args.columns in
    omega (arith, high, ap sum c.weights-weights.ensures.weights, c.requires.columns)

pub loop-preserved : goal.loop-preserved
loop-preserved c =
    let draw = c.args.draws.now.last in
    let n = c.loop.counter in
    record {
      rows = c.push.ensures.items ∙ rows_step draw n c.args.columns c.args.whole c.loop.table.items c.spread_by.result c.loop.draws.last c.loop.invariant.rows c.loop.invariant.last
          (c.spread_by.ensures ∙ ap (spread c.args.whole) c.weights-weights.ensures.weights);
      last = c.weights-weights.ensures.last ∙ ap (after c.args.columns) c.loop.invariant.last ∙ row_draws draw n c.args.columns;
      size = omega (arith, c.push.ensures.len, c.loop.invariant.size);
    }
