use Rattle.std.proofs.Common.{◌≡◌, ◌*◌, ◌≤◌}
use Rattle.std.specs.List.{range_with_len, sum_by}
use Rattle.bid_rules.specs.Goods.{greatest_points}
use Rattle.nash_bounds.proofs.prefix.greatest_sum.Given as goal
use Rattle.bid_rules.specs.declared.limits.TheConstants.{WHOLE_POINTS}

abbrev pub invariant-loop-k : goal.invariant-loop-k
invariant-loop-k l = (l.sum ≡ sum_by (greatest_points l.case) (range_with_len 1 l.k)) × (l.sum ≤ WHOLE_POINTS * l.k)
