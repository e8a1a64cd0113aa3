use Rattle.std.proofs.Common.{◌+◌, ◌≤◌, All, length}
use Rattle.estate_search.specs.Fronts.{IsLanedFront}
use Rattle.estate_search.proofs.stated.closed_children.Given as goal

abbrev pub invariant-loop-player : goal.invariant-loop-player
invariant-loop-player l = record {
  few : length l.closed.items + 1 ≤ l.player;
  each : All (IsLanedFront l.estate) l.closed.items;
}
