-- The leaves of a tree of marks, by the owners that lead to them.
use Rattle.std.specs.Prelude.{◌≡◌, ◌≢◌, ℕ, zero, suc, ◌-◌, ◌≤◌, List, [], ◌∷◌, ◌++◌, length, ◌⊎◌}
use Rattle.std.specs.List.{range_with_len}
use Rattle.bid_rules.specs.declared.goods.GoodsCase.{GoodsCase}
use Rattle.bid_rules.specs.Goods.{player_count}
use Rattle.cert_reader.specs.declared.marks.TheConstants.{ANSWER_LEAF, INNER_NODE, LEFT_OUT}
use Rattle.goods_rules.specs.Tree.{Children, Subtree}

-- nothing is asked of a leaf
abbrev pub AnyLeaf : List ℕ → ℕ → Type 0
AnyLeaf owners mark = Unit {0}

-- from a node with this many goods still to give, whose subtree begins the marks, these owners lead to a leaf with this mark: no owner leads to the node itself,
-- and otherwise the first owner names a child, whose subtree comes after those of the children before it, and the others lead on from there
abbrev pub LeadsToLeaf : ℕ → List ℕ → ℕ → List ℕ → ℕ → Type 0
LeadsToLeaf players [] goods [] leaf = ⊥
LeadsToLeaf players [] goods (mark ∷ marks) leaf = (mark ≡ leaf) × (mark ≢ INNER_NODE)
LeadsToLeaf players (owner ∷ owners) zero marks leaf = ⊥
LeadsToLeaf players (owner ∷ owners) (suc goods) [] leaf = ⊥
LeadsToLeaf players (owner ∷ owners) (suc goods) (mark ∷ marks) leaf =
    (mark ≡ INNER_NODE) × (1 ≤ owner) × (owner ≤ players)
    × ((behind : List ℕ) × Children (Subtree AnyLeaf players goods) [] (range_with_len 1 (owner - 1)) marks behind × LeadsToLeaf players owners goods behind leaf)

-- the marks of a tree over the goods of the case have a leaf with these owners and this mark
abbrev pub HasLeaf : GoodsCase → List ℕ → List ℕ → ℕ → Type 0
HasLeaf case marks owners leaf = LeadsToLeaf (player_count case) owners case.facts.goods marks leaf

-- what a leaf's mark can be: a `-`, or a `=` where all goods are given
abbrev pub IsLeafMark : GoodsCase → List ℕ → ℕ → Type 0
IsLeafMark case owners mark = ((mark ≡ LEFT_OUT) × (length owners ≤ case.facts.goods)) ⊎ ((mark ≡ ANSWER_LEAF) × (length owners ≡ case.facts.goods))

-- the allocation begins with the owners of exactly one leaf of the tree
pub record BeginsWithOneLeaf (case : GoodsCase) (marks allocation : List ℕ) : Type 0 where
  pub front : List ℕ
  pub rest : List ℕ
  pub mark : ℕ
  pub begins : allocation ≡ front ++ rest
  pub leaf : HasLeaf case marks front mark
  pub only : (other more : List ℕ) (leaf : ℕ) → allocation ≡ other ++ more → HasLeaf case marks other leaf → (other ≡ front) × (leaf ≡ mark)
