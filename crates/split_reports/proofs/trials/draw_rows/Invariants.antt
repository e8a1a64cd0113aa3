use Rattle.std.proofs.Common.{◌≡◌, ◌*◌, length}
use Rattle.split_reports.specs.TrialDraws.{after}
use Rattle.split_reports.specs.Trials.{rows_drawn}
use Rattle.split_reports.proofs.trials.draw_rows.Given as goal

abbrev pub invariant-loop : goal.invariant-loop
invariant-loop l = record {
  rows : l.table.items ≡ rows_drawn l.initial.draws.last l.counter l.columns l.whole;
  last : l.draws.last ≡ after (l.columns * l.counter) l.initial.draws.last;
  size : length l.table.items ≡ l.counter;
}
