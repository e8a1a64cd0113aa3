use Rattle.std.proofs.Common.{◌≡◌, ℕ, pos, ◌<◌, ◌+ℤ◌, ◌≤ℤ◌, length, get_or}
use Rattle.room_assignment.specs.Matrix.{entry}
use Rattle.room_assignment.proofs.walks.best_extended.Given as goal

abbrev pub invariant-loop-from : goal.invariant-loop-from
invariant-loop-from l = record {
  reached : (from : ℕ) × (from < length l.weights) × (l.best ≡ get_or l.weights from (pos 0) +ℤ entry l.matrix from l.to);
  greatest : (from : ℕ) → from < l.from → (get_or l.weights from (pos 0) +ℤ entry l.matrix from l.to) ≤ℤ l.best;
}
