use Rattle.std.proofs.Common.{◌≡◌, map, length}
use Rattle.std.specs.List.{range_with_len}
use Rattle.bid_rules.specs.Goods.{owner_of_good}
use Rattle.nash_bounds.proofs.owners.owners_by_good.Given as goal

abbrev pub invariant-loop-k : goal.invariant-loop-k
invariant-loop-k l = (l.owners.items ≡ map (owner_of_good l.case l.list) (range_with_len 1 l.k)) × (length l.owners.items ≡ l.k)
