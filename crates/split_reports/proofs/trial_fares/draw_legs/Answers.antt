use Rattle.std.proofs.Common.{length, sym, ap, ◌∙◌, arith}
use Rattle.split_reports.specs.TrialDraws.{after}
use Rattle.split_reports.specs.Trials.{others}
use Rattle.split_reports.proofs.Drawing.{after_none, leg_draws_more, table_none, table_step}
use Rattle.split_reports.proofs.trial_fares.draw_legs.Goals as goal

pub loop-from-init : goal.loop-from-init
loop-from-init c = record {
  legs = c.new-legs.ensures ∙ sym (table_none c.args.draws.now.last c.args.places);
  last = sym (after_none c.args.draws.now.last);
  size = ap length c.new-legs.ensures;
}

pub loop-from-preserved : goal.loop-from-preserved
loop-from-preserved c =
    let draw = c.args.draws.now.last in
    let from = c.loop-from.from in
    record {
      legs = c.push.ensures.items ∙ table_step draw c.args.places from c.loop-from.legs.items c.draw_row.result c.loop-from.draws.last c.loop-from.invariant.legs c.loop-from.invariant.last c.draw_row.ensures.legs;
      last = c.draw_row.ensures.last ∙ ap (λ last. after (others from c.args.places) last) c.loop-from.invariant.last ∙ leg_draws_more draw c.args.places from;
      size = omega (arith, c.push.ensures.len, c.loop-from.invariant.size);
    }
