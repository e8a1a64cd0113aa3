use Rattle.std.proofs.Common.{◌≡◌, map, min, take}
use Rattle.std.specs.List.{fold}
use Rattle.set_costs.specs.FirstStops.{cost_with}
use Rattle.set_costs.proofs.recurrence.cheapest.Given as goal

abbrev pub invariant-loop-stop : goal.invariant-loop-stop
invariant-loop-stop l = l.cost ≡ fold min l.initial.cost (take l.stop-index (map (cost_with l.case l.from) l.others))
