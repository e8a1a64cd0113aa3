use Rattle.std.proofs.Common.{◌≡◌, length, map}
use Rattle.set_costs.specs.Table.{ListsCosts}
use Rattle.fair_solver.proofs.dividing.rows_of_sets.Given as goal

abbrev pub invariant-loop : goal.invariant-loop
invariant-loop l = record {
  count : length l.rows.items ≡ l.counter;
  lists : ListsCosts l.case (map (λ row. row.items) l.rows.items);
}
