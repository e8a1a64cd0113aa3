use Rattle.std.proofs.Common.{◌≡◌, ◌≤◌, length, take}
use Rattle.std.specs.List.{filter_map}
use Rattle.bid_rules.specs.Facts.{place_named}
use Rattle.bid_rules.proofs.cases.places_of.Given as goal

abbrev pub invariant-loop-bid : goal.invariant-loop-bid
invariant-loop-bid l = record {
  few : length l.places.items ≤ l.bid-index;
  named : l.places.items ≡ filter_map place_named (take l.bid-index l.bids);
}
