use Rattle.std.proofs.Common.{◌≡◌, Some, take, map, length}
use Rattle.serde_json.specs.View.{view}
use Rattle.split_json.specs.Proposals.{owner_in}
use Rattle.split_json.specs.Rules.{each}
use Rattle.split_json.proofs.proposals.each_owner.Given as goal

abbrev pub invariant-loop-item : goal.invariant-loop-item
invariant-loop-item l = record {
  held : each (owner_in l.bids) (map view (take l.item-index l.list)) ≡ Some l.owners.items;
  count : length l.owners.items ≡ l.item-index;
}
