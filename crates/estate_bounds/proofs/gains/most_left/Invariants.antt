use Rattle.std.proofs.Common.{◌≡◌, ◌+◌, ◌-◌, ◌*◌, ◌≤◌, fold, get_or, map, max, min}
use Rattle.std.specs.List.{range_with_len}
use Rattle.bid_rules.specs.declared.limits.TheConstants.{WHOLE_POINTS}
use Rattle.estate_bounds.specs.declared.limits.TheConstants.{MOST_LOG, PRICE_PARTS}
use Rattle.estate_bounds.proofs.gains.most_left.Given as goal

abbrev pub invariant-loop-count : goal.invariant-loop-count
invariant-loop-count l = record {
  small : l.most ≤ MOST_LOG;
  value : l.most ≡ fold max 0 (map (λ count. get_or l.reserves (min (l.low + get_or l.mosts count 0) WHOLE_POINTS) 0 - l.fee * PRICE_PARTS * count) (range_with_len 0 l.count));
}
