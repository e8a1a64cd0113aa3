use Rattle.std.proofs.Common.{length, sym, ap, ◌∙◌, arith}
use Rattle.split_reports.specs.TrialDraws.{next}
use Rattle.split_reports.proofs.Drawing.{after_more, after_none, weights_more, weights_none}
use Rattle.split_reports.proofs.draws.Draws.weights.Goals as goal

pub loop-init : goal.loop-init
loop-init c = record {
  weights = c.new-weights.ensures ∙ sym (weights_none c.args.self.now.last);
  last = sym (after_none c.args.self.now.last);
  size = ap length c.new-weights.ensures;
}

pub loop-preserved : goal.loop-preserved
loop-preserved c =
    let draw = c.args.self.now.last in
    let n = c.loop.counter in
    let drawn = c.draw.ensures.drawn ∙ ap next c.loop.invariant.last in
    record {
      weights = let more = weights_more draw n in cc (more, drawn);
      last = c.draw.ensures.last ∙ drawn ∙ sym (after_more n draw);
      size = omega (arith, c.push.ensures.len, c.loop.invariant.size);
    }
