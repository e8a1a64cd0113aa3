use Rattle.std.proofs.Common.{◌<◌, ◌≤◌, ◌+◌, ◌^◌, length}
use Rattle.bid_rules.specs.Coalitions.{riders_in}
use Rattle.set_costs.proofs.LeastRoutes.{GoesOn}
use Rattle.set_costs.proofs.costs.SetCosts.route.Given as goal

abbrev pub invariant-loop-set : goal.invariant-loop-set
invariant-loop-set l = record {
  at : l.at ≤ length l.self.at.items;
  set : l.set < 2 ^ length l.self.at.items;
  room : length l.route.items + length (riders_in l.set) ≤ length l.self.at.items;
  goes_on : GoesOn l.self l.route.items l.at l.set;
}

abbrev pub decreases-loop-set : goal.decreases-loop-set
decreases-loop-set l = l.set
