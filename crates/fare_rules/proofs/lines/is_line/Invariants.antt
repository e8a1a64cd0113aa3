use Rattle.std.proofs.Common.{◌≡◌, ◌<◌, ℕ, pos, get_or}
use Rattle.fare_rules.proofs.lines.is_line.Given as goal

abbrev pub invariant-loop-k : goal.invariant-loop-k
invariant-loop-k l = (i : ℕ) → i < l.k → get_or l.line i (pos 0) ≡ pos (get_or l.row (get_or l.starts.items i 0) 0)
