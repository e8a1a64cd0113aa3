use Rattle.std.proofs.Common.{◌≡◌, length}
use Rattle.split_reports.specs.TrialDraws.{after}
use Rattle.split_reports.specs.Trials.{leg_draws, leg_table}
use Rattle.split_reports.proofs.trial_fares.draw_legs.Given as goal

abbrev pub invariant-loop-from : goal.invariant-loop-from
invariant-loop-from l = record {
  legs : l.legs.items ≡ leg_table l.initial.draws.last l.places l.from;
  last : l.draws.last ≡ after (leg_draws l.places l.from) l.initial.draws.last;
  size : length l.legs.items ≡ l.from;
}
