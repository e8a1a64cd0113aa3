use Rattle.std.proofs.Common.{◌≡◌}
use Rattle.std.specs.List.{filter, range_with_len}
use Rattle.bid_rules.specs.Coalitions.{has_rider}
use Rattle.set_costs.proofs.riders.riders_of_set.Given as goal

abbrev pub invariant-loop-bit : goal.invariant-loop-bit
invariant-loop-bit l = l.riders.items ≡ filter (has_rider l.set) (range_with_len 1 l.bit)
