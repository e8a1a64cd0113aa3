use Rattle.std.proofs.Common.{◌≡◌, ℕ, pos, ◌+◌, ◌*◌, ◌<◌, ◌≤◌, length, get_or, All, unsigned_abs}
use Rattle.room_assignment.specs.declared.limits.TheConstants.{MOST_STEP}
use Rattle.room_assignment.specs.Matrix.{entry}
use Rattle.room_assignment.specs.Rounds.{IsLongestWithin}
use Rattle.room_assignment.proofs.walks.longer_walks.Given as goal

abbrev pub invariant-loop-to : goal.invariant-loop-to
invariant-loop-to l = record {
  weights_count : length l.weights.items ≡ l.to;
  ranks_count : length l.ranks.items ≡ l.to;
  small : All (λ weight. unsigned_abs weight ≤ MOST_STEP * (l.limit + 1)) l.weights.items;
  longest : (i : ℕ) → i < l.to → IsLongestWithin (l.limit + 1) (length l.matrix.items) (entry l.matrix) i (get_or l.weights.items i (pos 0)) (get_or l.ranks.items i 0);
}
