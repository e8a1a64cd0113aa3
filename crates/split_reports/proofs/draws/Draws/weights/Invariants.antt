use Rattle.std.proofs.Common.{◌≡◌, length}
use Rattle.split_reports.specs.TrialDraws.{after, weights_behind}
use Rattle.split_reports.proofs.draws.Draws.weights.Given as goal

abbrev pub invariant-loop : goal.invariant-loop
invariant-loop l = record {
  weights : l.weights.items ≡ weights_behind l.initial.self.last l.counter;
  last : l.self.last ≡ after l.counter l.initial.self.last;
  size : length l.weights.items ≡ l.counter;
}
