use Rattle.std.proofs.Common.{◌≡◌, length}
use Rattle.split_reports.specs.TrialDraws.{after}
use Rattle.split_reports.specs.Trials.{places_drawn}
use Rattle.split_reports.proofs.trial_fares.draw_places.Given as goal

abbrev pub invariant-loop : goal.invariant-loop
invariant-loop l = record {
  places : l.at.items ≡ places_drawn l.initial.draws.last l.counter l.places;
  last : l.draws.last ≡ after l.counter l.initial.draws.last;
  size : length l.at.items ≡ l.counter;
}
