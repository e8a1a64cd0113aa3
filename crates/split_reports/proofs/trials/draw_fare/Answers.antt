use Rattle.std.proofs.Common.{◌+◌, ◌%◌, ap, ◌∙◌}
use Rattle.split_reports.specs.TrialDraws.{after}
use Rattle.split_reports.specs.Trials.{leg_draws, leg_table, places_drawn}
use Rattle.split_reports.specs.declared.limits.TheConstants.{FARE_MEMBERS, FLAGS, LEAST_FLAG, TRIAL_PLACES}
use Rattle.split_reports.proofs.Drawing.{after_one}
use Rattle.split_reports.proofs.CaseForms.{fare_is}
use Rattle.split_reports.proofs.trials.draw_fare.Goals as goal

pub returns : goal.returns
returns c =
    let draw = c.args.draws.now.last in
    let one = c.draw.ensures.drawn ∙ after_one draw in
    let last = c.draw.ensures.last ∙ one in
    fare_is draw (LEAST_FLAG + c.draw.result % FLAGS) c.draw_legs-legs.result c.all_members.result c.draw_places-at.result
    (ap (λ n. LEAST_FLAG + n % FLAGS) one)
    (c.draw_legs-legs.ensures.legs ∙ ap (λ n. leg_table n TRIAL_PLACES (TRIAL_PLACES + 1)) last)
    c.all_members.ensures
    (c.draw_places-at.ensures.places ∙ ap (λ n. places_drawn n FARE_MEMBERS TRIAL_PLACES) (c.draw_legs-legs.ensures.last ∙ ap (after (leg_draws TRIAL_PLACES (TRIAL_PLACES + 1))) last))
