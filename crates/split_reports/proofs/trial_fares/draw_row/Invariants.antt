use Rattle.std.proofs.Common.{◌≡◌, length}
use Rattle.split_reports.specs.TrialDraws.{after}
use Rattle.split_reports.specs.Trials.{legs_drawn, others}
use Rattle.split_reports.proofs.trial_fares.draw_row.Given as goal

abbrev pub invariant-loop-place : goal.invariant-loop-place
invariant-loop-place l = record {
  legs : l.row.items ≡ legs_drawn l.initial.draws.last l.from l.place;
  last : l.draws.last ≡ after (others l.from l.place) l.initial.draws.last;
  size : length l.row.items ≡ l.place;
}
