-- The leaves of a tree, by the owners that lead to them, whatever its nodes are.
use Rattle.std.specs.Prelude.{◌≡◌, ℕ, zero, suc, ◌-◌, ◌≤◌, List, [], ◌∷◌, ◌++◌}
use Rattle.std.specs.List.{range_with_len}
use Rattle.bid_rules.specs.declared.goods.GoodsCase.{GoodsCase}
use Rattle.bid_rules.specs.Goods.{player_count}
use Rattle.prefix_trees.specs.Tree.{Children, Subtree}

-- nothing is asked of a leaf
abbrev pub AnyLeaf : {N : Type 0} → List ℕ → List N → N → Type 0
AnyLeaf owners above node = Unit {0}

-- from a node with this many goods still to give, which is below these nodes and whose subtree begins the nodes, these owners lead to this leaf: no owner leads
-- to the node itself, and otherwise the first owner names a child, whose subtree comes after those of the children before it, and the others lead on from there.
-- The leaf is below the nodes that come last before it
abbrev pub LeadsToLeaf : {N : Type 0} → (N → Type 0) → ℕ → List N → List ℕ → ℕ → List N → List N → N → Type 0
LeadsToLeaf inner players above [] goods [] last leaf = ⊥
LeadsToLeaf inner players above [] goods (node ∷ nodes) last leaf = (last ≡ above) × (node ≡ leaf) × (inner node → ⊥)
LeadsToLeaf inner players above (owner ∷ owners) zero nodes last leaf = ⊥
LeadsToLeaf inner players above (owner ∷ owners) (suc goods) [] last leaf = ⊥
LeadsToLeaf {N = N} inner players above (owner ∷ owners) (suc goods) (node ∷ nodes) last leaf =
    inner node × (1 ≤ owner) × (owner ≤ players)
    × ((behind : List N) × Children (λ other. Subtree inner AnyLeaf players goods [] []) (range_with_len 1 (owner - 1)) nodes behind
    × LeadsToLeaf inner players (above ++ node ∷ []) owners goods behind last leaf)

-- the nodes of a tree over the goods of the case have this leaf with these owners, below these nodes
abbrev pub HasLeaf : {N : Type 0} → (N → Type 0) → GoodsCase → List N → List ℕ → List N → N → Type 0
HasLeaf inner case nodes owners above leaf = LeadsToLeaf inner (player_count case) [] owners case.facts.goods nodes above leaf

-- the allocation begins with the owners of exactly one leaf of the tree
pub record BeginsWithOneLeaf {N : Type 0} (inner : N → Type 0) (case : GoodsCase) (nodes : List N) (allocation : List ℕ) : Type 0 where
  pub front : List ℕ
  pub rest : List ℕ
  pub above : List N
  pub node : N
  pub begins : allocation ≡ front ++ rest
  pub leaf : HasLeaf inner case nodes front above node
  pub only : (other more : List ℕ) (tops : List N) (leaf : N) → allocation ≡ other ++ more → HasLeaf inner case nodes other tops leaf → (other ≡ front) × (leaf ≡ node)
