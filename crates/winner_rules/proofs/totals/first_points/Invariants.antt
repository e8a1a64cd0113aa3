use Rattle.std.proofs.Common.{◌≡◌, ◌*◌, ◌≤◌, map, sum_by}
use Rattle.std.specs.List.{range_with_len}
use Rattle.bid_rules.specs.Goods.{points}
use Rattle.winner_definition.specs.Divisions.{parts_held}
use Rattle.winner_definition.specs.Parts.{parts_list}
use Rattle.split_frac.specs.Frac.{fraction_of}
use Rattle.winner_rules.proofs.totals.first_points.Given as goal

abbrev pub invariant-loop-k : goal.invariant-loop-k
invariant-loop-k l = record {
  value : l.sum ≡ sum_by (λ good. parts_held (parts_list (map fraction_of l.shares)) good * points l.case 1 good) (range_with_len 1 l.k);
  small : l.sum ≤ l.k * 4294967295000;
}
