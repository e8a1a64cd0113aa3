-- For the definitions about the best division of a rent: walks over numbered vertices, their weights, the greatest of these, and the fewest steps that reach it.
use Rattle.std.specs.Prelude.{◌≡◌, ℕ, ℤ, pos, ◌+◌, ◌<◌, ◌≤◌, ◌+ℤ◌, ◌≤ℤ◌, ◌⊎◌, List, [], ◌∷◌, ◌++◌, length, All, slice_index, slice_index_or}

-- the weight of a walk to a vertex: the sum of its steps, with the vertices before it listed from the last one back to the first
abbrev pub walk_weight : (ℕ → ℕ → ℤ) → ℕ → List ℕ → ℤ
walk_weight step to [] = pos 0
walk_weight step to (from ∷ before) = walk_weight step from before +ℤ step from to

-- each of these is a vertex, numbered from 0 to n - 1
abbrev pub AreVertices : ℕ → List ℕ → Type 0
AreVertices n vertices = All (λ vertex. vertex < n) vertices

-- no walk from a vertex back to it has a positive weight
abbrev pub HasNoPositiveCycle : ℕ → (ℕ → ℕ → ℤ) → Type 0
HasNoPositiveCycle n step = (vertex : ℕ) (between : List ℕ) → vertex < n → AreVertices n between → walk_weight step vertex (between ++ vertex ∷ []) ≤ℤ pos 0

-- the number at a place of the list, and 0 past its end
abbrev pub weight_at : List ℤ → ℕ → ℤ
weight_at weights place = slice_index_or weights place (pos 0)

-- some walk to this vertex has this weight
abbrev pub IsAttained : ℕ → (ℕ → ℕ → ℤ) → ℕ → ℤ → Type 0
IsAttained n step to weight = (before : List ℕ) × AreVertices n before × (walk_weight step to before ≡ weight)

-- the greatest weight of any walk to this vertex, the walk of no steps included
pub record IsGreatestWeight (n : ℕ) (step : ℕ → ℕ → ℤ) (to : ℕ) (weight : ℤ) : Type 0 where
  pub attained : IsAttained n step to weight
  pub greatest : (before : List ℕ) → AreVertices n before → walk_weight step to before ≤ℤ weight

-- the fewest steps of any walk to this vertex that has this weight
pub record IsRank (n : ℕ) (step : ℕ → ℕ → ℤ) (to : ℕ) (weight : ℤ) (rank : ℕ) : Type 0 where
  pub attained : (before : List ℕ) × AreVertices n before × (walk_weight step to before ≡ weight) × (length before ≡ rank)
  pub least : (before : List ℕ) → AreVertices n before → walk_weight step to before ≡ weight → rank ≤ length before

-- for each vertex, the greatest weight of any walk to it
pub record AreGreatestWeights (n : ℕ) (step : ℕ → ℕ → ℤ) (weights : List ℤ) : Type 0 where
  pub count : length weights ≡ n
  pub each : (to : ℕ) → to < n → IsGreatestWeight n step to (weight_at weights to)

-- for each vertex, the fewest steps of any walk to it that has its weight
pub record AreRanks (n : ℕ) (step : ℕ → ℕ → ℤ) (weights : List ℤ) (ranks : List ℕ) : Type 0 where
  pub count : length ranks ≡ n
  pub each : (to : ℕ) → to < n → IsRank n step to (weight_at weights to) (slice_index ranks to)

-- for each vertex, a weight of 0 or more that some walk to it has and that no further step exceeds
pub record AreShownWeights (n : ℕ) (step : ℕ → ℕ → ℤ) (weights : List ℤ) : Type 0 where
  pub count : length weights ≡ n
  pub low : (to : ℕ) → to < n → pos 0 ≤ℤ weight_at weights to
  pub steps : (from to : ℕ) → from < n → to < n → (weight_at weights from +ℤ step from to) ≤ℤ weight_at weights to
  pub attained : (to : ℕ) → to < n → IsAttained n step to (weight_at weights to)

-- each rank leads back: rank and weight are 0, or the weight is that of a vertex whose rank is one less, and a step from there
abbrev pub AreShownRanks : ℕ → (ℕ → ℕ → ℤ) → List ℤ → List ℕ → Type 0
AreShownRanks n step weights ranks = (to : ℕ) → to < n
    → ((slice_index ranks to ≡ 0) × (weight_at weights to ≡ pos 0))
    ⊎ ((from : ℕ) × (from < n) × (slice_index ranks from + 1 ≡ slice_index ranks to) × (weight_at weights to ≡ weight_at weights from +ℤ step from to))
