-- What a certificate of goods says, as lists.
use Rattle.std.specs.Prelude.{ℕ, ℤ, List}

-- what a certificate of goods says: how many goods, the step limit, the member number of each player, points by player and good, the owner of each good, the
-- step count, and the marks of the tree
pub record GoodsView : Type 0 where
  pub goods : ℕ
  pub limit : ℤ
  pub who : List ℤ
  pub values : List (List ℤ)
  pub owners : List ℤ
  pub steps : ℤ
  pub marks : List ℕ
