use Rattle.std.proofs.Common.{◌≡◌, ◌<◌, ℕ, slice_index, false, ◌==◌}
use Rattle.input_commands.proofs.goods.place_of.Given as goal

abbrev pub invariant-loop-k : goal.invariant-loop-k
invariant-loop-k l = (j : ℕ) → j < l.k → (slice_index l.numbers j == l.number) ≡ false
