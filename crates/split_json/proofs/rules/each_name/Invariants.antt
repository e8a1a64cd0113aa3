use Rattle.std.proofs.Common.{◌≡◌, Some, take, map, length}
use Rattle.serde_json.specs.View.{view}
use Rattle.split_json.specs.Rules.{each, name_in}
use Rattle.split_json.proofs.rules.each_name.Given as goal

abbrev pub invariant-loop-item : goal.invariant-loop-item
invariant-loop-item g l = record {
  held : each name_in (map view (take l.item-index l.list)) ≡ Some (map (λ text. text.bytes) l.names.items);
  count : length l.names.items ≡ l.item-index;
}
