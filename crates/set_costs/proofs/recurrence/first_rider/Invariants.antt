use Rattle.best_laws.specs.Entries.{cost_by}
use Rattle.set_costs.proofs.FirstRiders.{IsFound}
use Rattle.set_costs.proofs.recurrence.first_rider.Given as goal

abbrev pub invariant-loop-place : goal.invariant-loop-place
invariant-loop-place l = IsFound (cost_by l.case l.from l.set) l.rider-items l.place l.first l.least
