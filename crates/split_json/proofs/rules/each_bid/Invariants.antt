use Rattle.std.proofs.Common.{◌≡◌, Some, take, map, length}
use Rattle.serde_json.specs.View.{view}
use Rattle.split_json.specs.Rules.{each, entry_in}
use Rattle.split_json.proofs.rules.each_bid.Given as goal

abbrev pub invariant-loop-item : goal.invariant-loop-item
invariant-loop-item l = record {
  held : each (entry_in l.facts) (map view (take l.item-index l.list)) ≡ Some l.bids.items;
  count : length l.bids.items ≡ l.item-index;
}
