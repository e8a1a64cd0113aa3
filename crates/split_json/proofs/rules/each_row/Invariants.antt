use Rattle.std.proofs.Common.{◌≡◌, Some, take, map, length}
use Rattle.serde_json.specs.View.{view}
use Rattle.split_json.specs.Rules.{each, row_in}
use Rattle.split_json.proofs.rules.each_row.Given as goal

abbrev pub invariant-loop-item : goal.invariant-loop-item
invariant-loop-item l = record {
  held : each row_in (map view (take l.item-index l.list)) ≡ Some l.rows.items;
  count : length l.rows.items ≡ l.item-index;
}
