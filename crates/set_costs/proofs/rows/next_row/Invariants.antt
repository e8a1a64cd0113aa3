use Rattle.std.proofs.Common.{◌≡◌, length, map}
use Rattle.std.specs.List.{range_with_len}
use Rattle.bid_rules.specs.Coalitions.{riders_in, start_of}
use Rattle.bid_rules.specs.Fares.{route_cost}
use Rattle.set_costs.proofs.rows.next_row.Given as goal

abbrev pub invariant-loop-at : goal.invariant-loop-at
invariant-loop-at l = l.row.items ≡ map (λ at. route_cost l.case (start_of l.case at) (riders_in (length l.rows))) (range_with_len 0 l.at)
