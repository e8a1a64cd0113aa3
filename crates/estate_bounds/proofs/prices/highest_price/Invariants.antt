use Rattle.std.proofs.Common.{◌≡◌, ℕ, ◌+◌, ◌*◌, ◌≤◌, map, fold, max}
use Rattle.std.specs.List.{range_with_len}
use Rattle.bid_rules.specs.Goods.{points}
use Rattle.nash_bounds.specs.Lanes.{IsLaneRow}
use Rattle.estate_bounds.specs.declared.limits.TheConstants.{MOST_PAYMENT}
use Rattle.estate_bounds.specs.Weighted.{weight}
use Rattle.estate_bounds.proofs.prices.highest_price.Given as goal

abbrev pub invariant-loop-k : goal.invariant-loop-k
invariant-loop-k l = record {
  value : (good : ℕ) → IsLaneRow l.case good l.row → l.most ≡ fold max 0 (map (λ player. weight l.rates player * points l.case player good + weight l.fees player) (range_with_len 1 l.k));
  small : l.most ≤ MOST_PAYMENT;
}
