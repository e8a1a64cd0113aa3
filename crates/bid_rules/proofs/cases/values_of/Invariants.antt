use Rattle.std.proofs.Common.{◌≡◌, ◌≤◌, length, take}
use Rattle.std.specs.List.{filter_map}
use Rattle.bid_rules.specs.Facts.{values_given}
use Rattle.bid_rules.proofs.cases.values_of.Given as goal

abbrev pub invariant-loop-bid : goal.invariant-loop-bid
invariant-loop-bid l = record {
  few : length l.values.items ≤ l.bid-index;
  given : l.values.items ≡ filter_map values_given (take l.bid-index l.bids);
}
