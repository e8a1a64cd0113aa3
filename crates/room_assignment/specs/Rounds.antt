-- Longest walks among those of limited length, one more step each round.
use Rattle.std.specs.Prelude.{◌≡◌, ℕ, ℤ, pos, ◌*◌, ◌<◌, ◌≤◌, ◌≤ℤ◌, List, length, All, slice_index, slice_index_or, unsigned_abs}
use Rattle.bid_rules.specs.Walks.{walk_weight, AreVertices}
use Rattle.room_assignment.specs.declared.limits.TheConstants.{MOST_STEP}

-- the greatest weight of any walk of at most this many steps to this vertex, and the fewest steps of such a walk
pub record IsLongestWithin (limit n : ℕ) (w : ℕ → ℕ → ℤ) (to : ℕ) (weight : ℤ) (steps : ℕ) : Type 0 where
  pub attained : (before : List ℕ) × AreVertices n before × (walk_weight w to before ≡ weight) × (length before ≡ steps)
  pub within : steps ≤ limit
  pub greatest : (before : List ℕ) → AreVertices n before → length before ≤ limit → walk_weight w to before ≤ℤ weight
  pub shortest : (before : List ℕ) → AreVertices n before → length before ≤ limit → walk_weight w to before ≡ weight → steps ≤ length before

-- for each vertex, the greatest weight of any walk of at most this many steps to it, and the fewest steps of such a
-- walk
pub record AreLongestWithin (limit n : ℕ) (w : ℕ → ℕ → ℤ) (weights : List ℤ) (ranks : List ℕ) : Type 0 where
  pub weights_count : length weights ≡ n
  pub ranks_count : length ranks ≡ n
  pub small : All (λ weight. unsigned_abs weight ≤ MOST_STEP * limit) weights
  pub longest : (i : ℕ) → i < n → IsLongestWithin limit n w i (slice_index_or weights i (pos 0)) (slice_index ranks i)
