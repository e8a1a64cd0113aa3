use Rattle.std.proofs.Common.{length, ◌+◌, ◌++◌, ◌==◌, ◌%◌, [], ◌∷◌, sym, ap, ◌∙◌, refl, cond, arith}
use Rattle.split_reports.specs.TrialDraws.{next}
use Rattle.split_reports.specs.Trials.{legs_drawn}
use Rattle.split_reports.specs.declared.limits.TheConstants.{LEAST_LEG, LEG_COUNT}
use Rattle.split_reports.proofs.Drawing.{after_none, leg_last, legs_none, row_more}
use Rattle.split_reports.proofs.trial_fares.draw_row.Goals as goal

pub loop-place-init : goal.loop-place-init
loop-place-init c = record {
  legs = c.new-row.ensures ∙ sym (legs_none c.args.draws.now.last c.args.from);
  last = sym (after_none c.args.draws.now.last);
  size = ap length c.new-row.ensures;
}

pub loop-place-preserved : goal.loop-place-preserved
loop-place-preserved c =
    let draw = c.args.draws.now.last in
    let from = c.args.from in
    let place = c.loop-place.place in
    record {
      legs = c.push.ensures.items ∙ ap (λ leg. c.loop-place.row.items ++ leg ∷ []) c.draw_leg.ensures.leg
          ∙ ap (λ xs. xs ++ cond (place + 1 == from) 0 (LEAST_LEG + next c.loop-place.draws.last % LEG_COUNT) ∷ []) c.loop-place.invariant.legs
          ∙ ap (λ last. legs_drawn draw from place ++ cond (place + 1 == from) 0 (LEAST_LEG + next last % LEG_COUNT) ∷ []) c.loop-place.invariant.last
          ∙ row_more draw from place;
      last = c.draw_leg.ensures.last ∙ ap (λ last. cond (place + 1 == from) last (next last)) c.loop-place.invariant.last ∙ leg_last draw from place (place + 1 == from) refl;
      size = omega (arith, c.push.ensures.len, c.loop-place.invariant.size);
    }
