-- Square matrices of weights.
use Rattle.std.specs.Prelude.{◌≡◌, ℕ, ℤ, pos, ◌≤◌, [], length, All, slice_index_or, unsigned_abs}
use Rattle.arrayvec.specs.declared.array_vec.ArrayVec.{ArrayVec}
use Rattle.bid_rules.specs.declared.limits.TheConstants.{MEMBER_ROOM}
use Rattle.room_assignment.specs.declared.limits.TheConstants.{MOST_STEP}

-- a matrix of weights, with at most one row and one column for each member
abbrev pub Matrix : Type 0
Matrix = ArrayVec (ArrayVec ℤ MEMBER_ROOM (Unit {0})) MEMBER_ROOM (Unit {0})

-- the entry in a row and a column, both from 0: the weight of the step from one vertex to another
unfoldable pub entry : Matrix → ℕ → ℕ → ℤ
entry matrix from to = slice_index_or (slice_index_or matrix.items from (record { items = [] })).items to (pos 0)

-- a matrix with as many columns as rows, each entry no further from 0 than a step may be
pub record IsSquare (matrix : Matrix) : Type 0 where
  pub columns : All (λ row. length row.items ≡ length matrix.items) matrix.items
  pub small : All (λ row. All (λ weight. unsigned_abs weight ≤ MOST_STEP) row.items) matrix.items
