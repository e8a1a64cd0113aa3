use Rattle.std.proofs.Common.{◌≡◌, All, map, take}
use Rattle.set_costs.specs.FirstStops.{IsKnownStop, stop_of}
use Rattle.set_costs.proofs.recurrence.first_stops.Given as goal

abbrev pub invariant-loop-rider : goal.invariant-loop-rider
invariant-loop-rider l = record {
  values : l.stops.items ≡ map (stop_of l.case l.set) (take l.rider-index l.rider-items);
  known : All (IsKnownStop l.case) l.stops.items;
}
