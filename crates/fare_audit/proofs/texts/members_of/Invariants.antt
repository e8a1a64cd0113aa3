use Rattle.std.proofs.Common.{◌≡◌, ◌-◌, length, map, take, slice_index}
use Rattle.fare_audit.proofs.texts.members_of.Given as goal

abbrev pub invariant-loop-rider : goal.invariant-loop-rider
invariant-loop-rider l = record {
  count : length l.members.items ≡ l.rider-index;
  so_far : l.members.items ≡ map (λ rider. slice_index l.who (rider - 1)) (take l.rider-index l.rider-items);
}
