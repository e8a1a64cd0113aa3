use Rattle.std.proofs.Common.{◌≡◌, ◌*◌, ◌≤◌, unsigned_abs, slice_index}
use Rattle.std.specs.List.{range_with_len}
use Rattle.bid_rules.specs.declared.limits.TheConstants.{MOST_RENT}
use Rattle.bid_rules.specs.Rent.{value}
use Rattle.bid_rules.specs.Sums.{total}
use Rattle.rent_rules.proofs.prices.welfare_of.Given as goal

abbrev pub invariant-loop-member : goal.invariant-loop-member
invariant-loop-member l = record {
  sum : l.sum ≡ total (λ i. value l.case i (slice_index l.rooms i)) (range_with_len 0 l.member);
  small : unsigned_abs l.sum ≤ MOST_RENT * l.member;
}
