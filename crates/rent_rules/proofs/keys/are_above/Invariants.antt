use Rattle.std.proofs.Common.{ℕ, pos, ◌<◌, ◌≤◌, ◌+ℤ◌, ◌≤ℤ◌, get_or}
use Rattle.bid_rules.specs.Keys.{key}
use Rattle.bid_rules.specs.Rent.{price_of, room_count}
use Rattle.rent_rules.proofs.keys.are_above.Given as goal

abbrev pub invariant-loop-member : goal.invariant-loop-member
invariant-loop-member l = (k : ℕ) → k < l.member → (room : ℕ) → 1 ≤ room → room ≤ room_count l.case → key l.case k room ≤ℤ (get_or l.left k (pos 0) +ℤ price_of l.right room)
