use Rattle.std.proofs.Common.{◌≡◌, length}
use Rattle.std.specs.List.{range_with_len}
use Rattle.split_reports.proofs.trials.all_members.Given as goal

abbrev pub invariant-loop-place : goal.invariant-loop-place
invariant-loop-place g l = record {
  who : l.who.items ≡ range_with_len 1 l.place;
  size : length l.who.items ≡ l.place;
}
