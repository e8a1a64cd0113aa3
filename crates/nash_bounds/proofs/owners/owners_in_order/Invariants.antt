use Rattle.std.proofs.Common.{◌≡◌, ◌-◌, length, map, take, slice_index}
use Rattle.nash_bounds.proofs.owners.owners_in_order.Given as goal

abbrev pub invariant-loop-k : goal.invariant-loop-k
invariant-loop-k l = record {
  count : length l.list.items ≡ l.k;
  items : l.list.items ≡ map (λ good. slice_index l.owners (good - 1)) (take l.k l.order);
}
