-- Behind the owners left are those who are the last players.
use Rattle.std.proofs.Common.{◌≡◌, ℕ, ◌≤◌, ◌++◌, List, All, length}
use Rattle.prefix_trees.proofs.walk.climb.Given as goal

abbrev pub invariant-up : goal.invariant-up
invariant-up l = (last : List ℕ) × (l.fn.owners.items ≡ l.owners.items ++ last) × All (λ owner. l.players ≤ owner) last

abbrev pub decreases-up : goal.decreases-up
decreases-up l = length l.owners.items
