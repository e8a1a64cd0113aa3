use Rattle.std.proofs.Common.{ℕ, pos, ◌+◌, ◌<◌, ◌+ℤ◌, ◌≤ℤ◌, get_or}
use Rattle.bid_rules.specs.Keys.{key}
use Rattle.rent_rules.proofs.keys.is_above.Given as goal

abbrev pub invariant-loop-room : goal.invariant-loop-room
invariant-loop-room l = (k : ℕ) → k < l.room → key l.case l.member (k + 1) ≤ℤ (get_or l.left l.member (pos 0) +ℤ get_or l.right k (pos 0))
