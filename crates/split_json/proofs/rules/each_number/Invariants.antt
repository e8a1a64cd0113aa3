use Rattle.std.proofs.Common.{◌≡◌, Some, take, map, length}
use Rattle.serde_json.specs.View.{view}
use Rattle.split_json.specs.Rules.{each, number_in}
use Rattle.split_json.proofs.rules.each_number.Given as goal

abbrev pub invariant-loop-item : goal.invariant-loop-item
invariant-loop-item g l = record {
  held : each number_in (map view (take l.item-index l.list)) ≡ Some l.numbers.items;
  count : length l.numbers.items ≡ l.item-index;
}
