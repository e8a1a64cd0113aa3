use Rattle.std.proofs.Common.{◌≡◌, ◌≤◌, length}
use Rattle.std.specs.List.{filter, range_with_len}
use Rattle.envy_check.specs.Goods.{is_owner}
use Rattle.split_reports.proofs.players.goods_of.Given as goal

abbrev pub invariant-loop-k : goal.invariant-loop-k
invariant-loop-k l = record {
  so_far : l.goods.items ≡ filter (is_owner l.owners l.player) (range_with_len 1 l.k);
  few : length l.goods.items ≤ l.k;
}
