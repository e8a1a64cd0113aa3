use Rattle.std.proofs.Common.{ℕ, ◌-◌, ◌≤◌, slice_index}
use Rattle.goods_audit.proofs.walk.may_all_have.Given as goal

abbrev pub invariant-loop-k : goal.invariant-loop-k
invariant-loop-k l = (player : ℕ) → 1 ≤ player → player ≤ l.k → slice_index l.had (player - 1) ≤ slice_index l.may_have (player - 1)
