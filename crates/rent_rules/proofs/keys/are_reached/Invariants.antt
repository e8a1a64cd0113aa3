use Rattle.std.proofs.Common.{◌≡◌, ℕ, pos, ◌<◌, ◌+ℤ◌, get_or}
use Rattle.bid_rules.specs.Keys.{key}
use Rattle.bid_rules.specs.Rent.{price_of}
use Rattle.rent_rules.proofs.keys.are_reached.Given as goal

abbrev pub invariant-loop-member : goal.invariant-loop-member
invariant-loop-member l = (k : ℕ) → k < l.member → get_or l.left k (pos 0) +ℤ price_of l.right (get_or l.rooms k 0) ≡ key l.case k (get_or l.rooms k 0)
