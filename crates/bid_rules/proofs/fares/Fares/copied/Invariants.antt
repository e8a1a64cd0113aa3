use Rattle.std.proofs.Common.{◌≡◌, take}
use Rattle.bid_rules.proofs.fares.Fares.copied.Given as goal

abbrev pub invariant-loop-row : goal.invariant-loop-row
invariant-loop-row l = l.legs.items ≡ take l.row-index l.row-items
