use Rattle.std.proofs.Common.{◌≡◌, ◌*◌, ◌^◌, ◌≤◌, drop}
use Rattle.bid_rules.specs.Pairs.{product}
use Rattle.nash_bounds.proofs.vectors.half_product.Given as goal
use Rattle.bid_rules.specs.declared.limits.TheConstants.{WHOLE_POINTS}

abbrev pub invariant-loop-number : goal.invariant-loop-number
invariant-loop-number l = record {
  small : l.product ≤ WHOLE_POINTS ^ l.number-index;
  sofar : l.product * product (drop l.number-index l.numbers) ≡ product l.numbers;
}
