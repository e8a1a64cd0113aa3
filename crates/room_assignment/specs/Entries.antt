-- For the rooms of greatest welfare and for longest walks: what stands in the matrices, which are made row by row.
use Rattle.std.specs.Prelude.{◌≡◌, ℕ, ℤ, pos, ◌<◌, ◌≤◌, List, [], length, slice_index_or, unsigned_abs}
use Rattle.room_assignment.specs.Matrix.{Matrix}

-- a row holds the values of a function, each no further from 0 than the limit
pub record IsRowOf (n limit : ℕ) (f : ℕ → ℤ) (row : List ℤ) : Type 0 where
  pub count : length row ≡ n
  pub values : (j : ℕ) → j < n → slice_index_or row j (pos 0) ≡ f j
  pub row_small : (j : ℕ) → j < n → unsigned_abs (slice_index_or row j (pos 0)) ≤ limit

-- a square matrix holds the values of a function of row and column, each no further from 0 than the limit
pub record HasEntries (n limit : ℕ) (f : ℕ → ℕ → ℤ) (matrix : Matrix) : Type 0 where
  pub rows_count : length matrix.items ≡ n
  pub rows : (i : ℕ) → i < n → IsRowOf n limit (f i) (slice_index_or matrix.items i (record { items = [] })).items
