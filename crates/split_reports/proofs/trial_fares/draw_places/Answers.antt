use Rattle.std.proofs.Common.{length, sym, ap, ◌∙◌, arith}
use Rattle.split_reports.specs.TrialDraws.{next}
use Rattle.split_reports.proofs.Drawing.{after_more, after_none, places_more, places_none}
use Rattle.split_reports.proofs.trial_fares.draw_places.Goals as goal

pub loop-init : goal.loop-init
loop-init c = record {
  places = c.new-at.ensures ∙ sym (places_none c.args.draws.now.last c.args.places);
  last = sym (after_none c.args.draws.now.last);
  size = ap length c.new-at.ensures;
}

pub loop-preserved : goal.loop-preserved
loop-preserved c =
    let draw = c.args.draws.now.last in
    let n = c.loop.counter in
    let drawn = c.draw.ensures.drawn ∙ ap next c.loop.invariant.last in
    record {
      places = let more = places_more draw n c.args.places in cc (more, drawn);
      last = c.draw.ensures.last ∙ drawn ∙ sym (after_more n draw);
      size = omega (arith, c.push.ensures.len, c.loop.invariant.size);
    }
