use Rattle.std.proofs.Common.{◌≡◌, ◌≤◌, ◌*◌, take, unsigned_abs}
use Rattle.bid_rules.specs.FareLimits.{most_sum}
use Rattle.bid_rules.specs.Sums.{total}
use Rattle.fare_audit.specs.Parts.{part_at}
use Rattle.fare_audit.proofs.parts.paid_by.Given as goal

abbrev pub invariant-loop-rider : goal.invariant-loop-rider
invariant-loop-rider l = record {
  value : l.paid ≡ total (part_at l.parts) (take l.rider-index l.riders);
  size : unsigned_abs l.paid ≤ most_sum * l.rider-index;
}
